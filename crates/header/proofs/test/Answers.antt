-- `header::test` is the judge and then the pair. Assumes nothing.
use mathlib.Core.Path.{refl}
use Rattle.rules.specs.Table.{house}
use Rattle.rules.proofs.Answers.{handed-on}
use Rattle.header.proofs.IssueLaws.{tested-refused, tested-given}
use Rattle.header.proofs.test.Goals as goal

pub returns-in_err-judge : goal.returns-in_err-judge
returns-in_err-judge c = rw (handed-on _ _ c.from_residual.ensures) (tested-refused house _ _ _ _ _ c.in_err-judge.ensures)

pub returns : goal.returns
returns c = tested-given house _ _ _ c.in_ok-judge.ensures _ refl c.test_pair.ensures
