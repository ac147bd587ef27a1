use Rattle.header.proofs.StoreLaws.{port_followed, port_left}
use Rattle.header.proofs.Net.by_port.Goals as goal
use Rattle.header.proofs.Net.by_port.Goals.{else-ports-p-eq1, then-ports-p-eq1}

pub loop-p-preserved : goal.loop-p-preserved
loop-p-preserved c =
    let sofar = c.loop-p.invariant in
    let port = c.loop-p-test.true in
    elim c.if-ports-p-eq1.branch [
      | then-ports-p-eq1 w ↦ port_followed _ _ _ _ sofar port w.if-ports-p-eq1.true w.follow.ensures w.sets-is
      | else-ports-p-eq1 w ↦ port_left _ _ _ _ sofar port w.if-ports-p-eq1.false w.sets-is
    ]
