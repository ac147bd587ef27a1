-- `ways::mask_pair` answers as meet found, refuses with 7 beyond eight hops, and else has every mask. Assumes nothing.
use mathlib.Core.Path.{refl}
use Rattle.rules.proofs.Answers.{handed-on}
use Rattle.ways.proofs.PairMade.{pair-long, pair-unmet, pair_far, pair-met}
use Rattle.wiring.proofs.Reading.{few_switches}
use Rattle.ways.proofs.mask_pair.Goals as goal

pub returns-then-table-gt512 : goal.returns-then-table-gt512
returns-then-table-gt512 c = pair-long _ _ _ c.if-table-gt512.true

pub returns-in_err-met : goal.returns-in_err-met
returns-in_err-met c = rw (handed-on _ _ c.from_residual.ensures) (pair-unmet _ _ _ c.if-table-gt512.false _ c.in_err-met.ensures)

pub returns-then-met-gt8 : goal.returns-then-met-gt8
returns-then-met-gt8 c = pair_far _ _ _ c.if-table-gt512.false c.in_ok-met.ensures c.if-met-gt8.true

pub returns : goal.returns
returns c = pair-met _ _ _ c.if-table-gt512.false c.in_ok-met.ensures c.if-met-gt8.false refl refl c.all_masks.ensures

pub invariant_of-fabric : goal.invariant_of-fabric
invariant_of-fabric c = record { few = few_switches _ c.if-table-gt512.false }
