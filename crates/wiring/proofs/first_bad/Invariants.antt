-- `wiring::first_bad` meets its contract. The scan has passed only entries of a kind, so the first bad one that it meets is the least.
-- Assumes nothing.
use lib.ListN.{length}
use Rattle.rules.specs.Table.{house}
use Rattle.rules.specs.RunTable.{bad_at}
use Rattle.wiring.proofs.Laws.{Passed}
use Rattle.wiring.proofs.first_bad.Given as goal

abbrev pub invariant-loop-i : goal.invariant-loop-i
invariant-loop-i l = Passed (length l.table) (bad_at house l.table) l.i
