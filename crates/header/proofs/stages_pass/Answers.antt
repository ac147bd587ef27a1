use Rattle.header.proofs.StageLaws.{passing_on}
use Rattle.header.proofs.stages_pass.Goals as goal

pub loop-w-preserved : goal.loop-w-preserved
loop-w-preserved c =
    passing_on _ _ _ _ c.loop-w.invariant c.loop-w-test.true c.common_of.ensures
    c.if-w-eq0.false c.if-w-common_of.false c.by_port.ensures c.join-set.ensures
