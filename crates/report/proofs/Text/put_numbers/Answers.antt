use Rattle.std.proofs.Common.{rules}
use native.Mathlib.Omega.{arith}
use mathlib.Core.Path.{◌≡◌, refl, ◌∙◌, subst}
use Prim.Native.Nat.{ℕ}
use mathlib.Core.List.{[]}
use lib.ListN.{length, get_or}
use Rattle.report.specs.Put.{spaced_number}
use Rattle.report.proofs.RunLaws.{Run, run_fits, run_next, numbers_room, numbers_none, numbers_end}
use Rattle.report.proofs.Text.put_numbers.Goals as goal
use Rattle.report.proofs.Text.put_numbers.Goals.{Start}

-- there are six numbers
six : (c : Start) → length c.args.numbers ≡ 6
six c = search rules

pub loop-n-init : goal.loop-n-init
loop-n-init c = (refl, numbers_none _ _ _ c.requires)

pub put_number-requires : goal.put_number-requires
put_number-requires c =
    run_fits _ _ _ _ _ _ _ c.loop-n.invariant.1 (length c.args.numbers) (omega (arith, six (goal.at.put_number-requires c).Start, c.loop-n-test.true)) (numbers_room c.args.numbers c.args.self.now.len c.args.self.now.out.now c.requires)

pub loop-n-preserved : goal.loop-n-preserved
loop-n-preserved c =
    (c.put_number.ensures.same ∙ c.loop-n.invariant.0, run_next _ _ _ _ _ _ _ c.loop-n.invariant.1 (length c.args.numbers) (omega (arith, six (goal.at.loop-n-preserved c).Start, c.loop-n-test.true)) (numbers_room c.args.numbers c.args.self.now.len c.args.self.now.out.now c.requires) _ _ c.put_number.ensures.put)

pub returns : goal.returns
returns c =
    let few : c.loop-n.n-index ≡ length c.args.numbers = omega (arith, six (goal.at.returns c).Start, c.loop-n-test.false, c.loop-n.auto.n-index-end) in
    record {
      same = c.loop-n.invariant.0;
      put = numbers_end _ _ _ _ _ (subst (λ (i : ℕ). Run [] (λ j. spaced_number (get_or c.args.numbers j 0)) c.args.self.now.len c.args.self.now.out.now c.loop-n.self.out.now c.loop-n.self.len i) few c.loop-n.invariant.1);
    }
