-- `walk::from_switch` meets its contract. The words and choice bytes from i on, from switch s, make the walk that is left; each answer of a
-- hop ends it or leaves one word less. Assumes nothing.
use Rattle.walk.proofs.Laws.{Walking}
use Rattle.walk.proofs.from_switch.Given as goal

abbrev pub invariant-loop-i : goal.invariant-loop-i
invariant-loop-i l = Walking l.fabric.table.now l.header l.choices l.home l.s l.i
