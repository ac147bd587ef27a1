-- `ways::arrive` meets its contract. The scan has passed only switches at which the processor does not stand, so the first at which it
-- stands is the least. Assumes nothing.
use mathlib.Core.Path.{◌≡◌}
use mathlib.Core.Bool.{false}
use Prim.Native.Nat.{ℕ, ◌<◌}
use lib.ListN.{get_or}
use Rattle.rules.specs.RunTable.{stands}
use Rattle.rules.specs.Table.{house}
use Rattle.ways.proofs.arrive.Given as goal

abbrev pub invariant-loop-i : goal.invariant-loop-i
invariant-loop-i l = (k : ℕ) → k < l.i → stands house l.fabric.table.now l.target (get_or l.search.order k 0) ≡ false
