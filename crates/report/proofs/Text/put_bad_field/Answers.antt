-- `report::Text::put_bad_field` meets its contract: three texts are put, one behind the other. Assumes nothing.
use native.Mathlib.Omega.{arith}
use mathlib.Core.Path.{refl, ◌∙◌}
use Rattle.rules.specs.Sets.{tabulate}
use Rattle.rules.specs.Print.{ascii}
use Rattle.report.proofs.TextLaws.{bad-within, bad-room, bad-put}
use Rattle.report.proofs.Text.put_bad_field.Goals as goal

pub put_decimal-requires : goal.put_decimal-requires
unfolding ascii tabulate
put_decimal-requires c =
    (bad-within c.args.place _ c.requires.0 _ _ (omega (arith, c.ranges.place)) c.requires.1 refl _ _ c.put.ensures.put).2

pub put_byte-requires : goal.put_byte-requires
unfolding ascii tabulate
put_byte-requires c =
    let l = (bad-room c.args.place _ c.requires.0 _ _ (omega (arith, c.ranges.place)) c.requires.1 refl _ _ c.put.ensures.put _ _ c.put_decimal.ensures.put).2 in
    omega arith

pub returns : goal.returns
unfolding ascii tabulate
returns c = record {
  same = c.put_byte.ensures.same ∙ c.put_decimal.ensures.same ∙ c.put.ensures.same;
  put =
      (bad-put c.args.place _ c.requires.0 _ _ (omega (arith, c.ranges.place)) c.requires.1 refl _ _ c.put.ensures.put _ _ c.put_decimal.ensures.put _ _ c.put_byte.ensures.put).0;
}
