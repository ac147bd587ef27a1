use Rattle.header.proofs.GroupLaws.{grouping_put, grouping_next, grouping_same}
use Rattle.header.proofs.Net.grouped.Goals as goal
use Rattle.header.proofs.Net.grouped.Goals.{else-ports-p-eq1, then-ports-p-eq1+else-alike, then-ports-p-eq1+then-alike}

pub loop-p-preserved : goal.loop-p-preserved
loop-p-preserved c =
    let sofar = c.loop-p.invariant in
    let port = c.loop-p-test.true in
    elim c.if-ports-p-eq1.branch [
      | then-ports-p-eq1+then-alike w ↦ grouping_put _ _ _ sofar port (w.alike.ensures w.if-alike.true) w.sets-is w.first-is
      | then-ports-p-eq1+else-alike w ↦ grouping_next _ _ _ sofar port w.sets-is w.first-is
      | else-ports-p-eq1 w ↦ grouping_same _ _ _ sofar w.sets-is w.first-is
    ]
