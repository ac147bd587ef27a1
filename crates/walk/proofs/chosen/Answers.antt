use Rattle.walk.proofs.Laws.{counted_barred, counted_permitted}
use Rattle.walk.proofs.chosen.Goals as goal
use Rattle.walk.proofs.chosen.Goals.{else-word-p-eq1, then-word-p-eq1+else-below-wanted}

pub loop-p-preserved : goal.loop-p-preserved
loop-p-preserved c =
    let l = c.loop-p-test.true in
    elim c.if-word-p-eq1.branch [
      | then-word-p-eq1+else-below-wanted w ↦ counted_permitted _ _ c.loop-p.invariant l w.if-word-p-eq1.true w.if-below-wanted.false w.below-is
      | else-word-p-eq1 w ↦ counted_barred _ _ c.loop-p.invariant l w.if-word-p-eq1.false w.below-is
    ]
