-- `walk::chosen` meets its contract. The loop counts the permitted ports below p and has passed no port with the count that is asked for,
-- so the first that it meets is the least. Assumes nothing.
use Rattle.walk.proofs.Laws.{Counted}
use Rattle.walk.proofs.chosen.Given as goal

abbrev pub invariant-loop-p : goal.invariant-loop-p
invariant-loop-p l = Counted l.word l.wanted l.below l.p
