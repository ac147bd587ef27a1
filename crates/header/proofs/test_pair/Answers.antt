-- `header::test_pair` refuses as the pair is refused, says no to another length, and else what the stages say. Assumes nothing.
use Rattle.rules.proofs.Answers.{handed-on}
use Rattle.header.proofs.Opened.{opened, small, home-small, start-inside}
use Rattle.header.proofs.Issued.{test-none, test-long, test-said}
use Rattle.header.proofs.test_pair.Goals as goal

pub returns-in_err-pair : goal.returns-in_err-pair
returns-in_err-pair c = rw (handed-on _ _ c.from_residual.ensures) (test-none _ _ _ _ c.in_err-pair.ensures _)

pub returns-then-header-pair : goal.returns-then-header-pair
returns-then-header-pair c = test-long _ _ _ c.in_ok-pair.ensures _ c.if-header-pair.true

pub overflow_shl-pair : goal.overflow_shl-pair
overflow_shl-pair c = home-small (opened _ _ _ c.in_ok-pair.ensures)

pub invariant_of-fabric : goal.invariant_of-fabric
invariant_of-fabric c = record { few = small (opened _ _ _ c.in_ok-pair.ensures) }

pub stages_pass-requires : goal.stages_pass-requires
stages_pass-requires c = start-inside (opened _ _ _ c.in_ok-pair.ensures)

pub returns : goal.returns
returns c = test-said _ _ _ c.in_ok-pair.ensures _ c.if-header-pair.false c.stages_pass.ensures
