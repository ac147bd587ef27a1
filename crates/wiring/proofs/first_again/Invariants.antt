-- `wiring::first_again` meets its contract. Two entries are one processor exactly where the numbers are equal and in the range, so the
-- inner loop looks for the same number lower down; the scan has passed only indices without one. Assumes nothing.
use Prim.Native.Nat.{ℕ, ◌<◌}
use mathlib.Core.Path.{◌≡◌}
use mathlib.Core.Bool.{true, false}
use lib.ListN.{length, get_or}
use Rattle.rules.specs.Table.{house}
use Rattle.rules.specs.RunTable.{again}
use Rattle.wiring.proofs.Laws.{Passed}
use Rattle.wiring.proofs.first_again.Given as goal

abbrev pub invariant-loop-i : goal.invariant-loop-i
invariant-loop-i l = Passed (length l.table) (again house l.table) l.i

abbrev pub invariant-loop-j : goal.invariant-loop-j
invariant-loop-j l =
    (l.met ≡ true → (k : ℕ) × (k < l.j) × (get_or l.table k 0 ≡ get_or l.table l.i 0))
    × (l.met ≡ false → (k : ℕ) → k < l.j → get_or l.table k 0 ≡ get_or l.table l.i 0 → ⊥)
