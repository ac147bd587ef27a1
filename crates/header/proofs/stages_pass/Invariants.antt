-- `header::stages_pass` meets its contract. The header passes from the start exactly where what is left of it passes from the set reached.
-- Assumes nothing.
use lib.ListN.{get_or}
use Rattle.header.proofs.StageLaws.{Passing}
use Rattle.header.proofs.stages_pass.Given as goal

abbrev pub invariant-loop-w : goal.invariant-loop-w
invariant-loop-w l = Passing l.net.fabric.table.now (λ s. get_or l.net.masks.now s 0) l.start l.header l.set l.w-index
