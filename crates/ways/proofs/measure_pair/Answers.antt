-- `ways::measure_pair` answers a table that is too long with 1, and else with what meet found. Assumes nothing.
use Rattle.rules.proofs.Answers.{handed-on}
use Rattle.ways.proofs.PairMade.{measure-long, measure-none, measure-met}
use Rattle.wiring.proofs.Reading.{few_switches}
use Rattle.ways.proofs.measure_pair.Goals as goal

pub returns-then-table-gt512 : goal.returns-then-table-gt512
returns-then-table-gt512 c = measure-long _ _ _ c.if-table-gt512.true

pub returns-in_err-meet : goal.returns-in_err-meet
returns-in_err-meet c = rw (handed-on _ _ c.from_residual.ensures) (measure-none _ _ _ c.if-table-gt512.false _ c.in_err-meet.ensures)

pub returns : goal.returns
returns c = measure-met _ _ _ c.if-table-gt512.false _ c.in_ok-meet.ensures

pub invariant_of-meet : goal.invariant_of-meet
invariant_of-meet c = record { few = few_switches _ c.if-table-gt512.false }
