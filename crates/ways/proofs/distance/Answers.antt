-- `ways::distance` is the judge and then the pair. Assumes nothing.
use Rattle.rules.specs.Table.{house}
use Rattle.rules.proofs.Answers.{handed-on}
use Rattle.ways.proofs.PairLaws.{distance-refused, distance-given}
use Rattle.ways.proofs.distance.Goals as goal

pub returns-in_err-judge : goal.returns-in_err-judge
returns-in_err-judge c = rw (handed-on _ _ c.from_residual.ensures) (distance-refused house _ _ _ _ c.in_err-judge.ensures)

pub returns : goal.returns
returns c = distance-given house _ _ _ c.in_ok-judge.ensures _ c.measure_pair.ensures
