use mathlib.Core.Path.{refl, ◌∙◌}
use Rattle.rules.specs.Sets.{tabulate}
use Rattle.rules.specs.Print.{ascii, heading}
use Rattle.report.proofs.LinesLaws.{lined-none, lined-more, lined-all}
use Rattle.report.proofs.Text.put_lines.Goals as goal

pub loop-i-init : goal.loop-i-init
unfolding heading ascii tabulate
loop-i-init c =
    (c.put.ensures.same, lined-none _ _ _ c.requires.1 _ _ _ _ _ c.requires.0 c.requires.2 refl c.put.ensures.put)

pub loop-i-preserved : goal.loop-i-preserved
unfolding heading ascii tabulate
loop-i-preserved c =
    (c.put_line.ensures.put.same ∙ c.loop-i.invariant.0, lined-more _ _ _ c.requires.1 _ _ _ _ _ c.requires.0 c.requires.2 refl c.put.ensures.put _ _ _ c.loop-i.invariant.1 c.loop-i-test.true _ c.pair.ensures _ _ (c.put_line.ensures.put.put, c.put_line.ensures.short))

pub returns : goal.returns
unfolding heading ascii tabulate
returns c = record {
  same = c.loop-i.invariant.0;
  put = (lined-all _ _ _ c.requires.1 _ _ _ _ _ c.requires.0 c.requires.2 refl c.put.ensures.put _ _ _ c.loop-i.invariant.1 c.loop-i-test.false).0;
}
