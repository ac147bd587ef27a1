-- Each word before the last is put with a space behind it, the last with a line feed. Assumes nothing.
use Prim.Native.Nat.{ℕ, ◌-◌, ◌<◌}
use native.Mathlib.Omega.{arith}
use mathlib.Core.Path.{◌≡◌, refl, ◌∙◌, subst}
use lib.ListN.{length, take}
use lib.Seq.{length-take-le, get_or-take}
use mathlib.Core.List.{[], ◌∷◌, ◌++◌}
use Rattle.rules.specs.Print.{hex}
use Rattle.report.specs.Put.{Put}
use Rattle.report.proofs.TextLaws.{Worded, worded-none, worded-more, worded-last}
use Rattle.report.proofs.Text.put_words.Goals as goal
use Rattle.report.proofs.Text.put_words.Goals.{Start}

-- the words before the last
turns : (c : Start) → length (take (length c.args.words.now - 1) c.args.words.now) ≡ length c.args.words.now - 1
turns c = length-take-le (length c.args.words.now - 1) c.args.words.now (omega arith)

pub loop-w-init : goal.loop-w-init
loop-w-init c = (refl, worded-none _ _ _ c.requires.1)

pub loop-w-preserved : goal.loop-w-preserved
loop-w-preserved c =
    let n = length c.args.words.now - 1 in
    let l : c.loop-w.w-index < length c.args.words.now - 1 = omega (arith, turns (goal.at.loop-w-preserved c).Start, c.loop-w-test.true) in
    let word = subst (λ (w : ℕ). Put (hex w ++ (32 ∷ [])) c.loop-w.self.len c.loop-w.self.out.now c.put_word.new.self.out.now c.put_word.new.self.len) (get_or-take n c.args.words.now c.loop-w.w-index 0 l) c.put_word.ensures.put in
    (c.put_word.ensures.same ∙ c.loop-w.invariant.0, worded-more _ _ _ c.requires.1 c.loop-w.self.out.now c.loop-w.self.len c.loop-w.w-index c.loop-w.invariant.1 (omega arith) _ _ word)

pub returns : goal.returns
returns c =
    let last : c.loop-w.w-index ≡ length c.args.words.now - 1 = omega (arith, turns (goal.at.returns c).Start, c.loop-w-test.false, c.loop-w.auto.w-index-end) in
    let l = c.requires.0 in
    record {
      same = c.put_word-2.ensures.same ∙ c.loop-w.invariant.0;
      put = (worded-last _ _ _ c.requires.1 _ _ (length c.args.words.now - 1) (subst (λ (i : ℕ). Worded c.args.words.now c.args.self.now.len c.args.self.now.out.now c.loop-w.self.out.now c.loop-w.self.len i) last c.loop-w.invariant.1) (omega arith) _ _ (omega arith) c.put_word-2.ensures.put).0;
    }
