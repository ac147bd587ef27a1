-- `ways::stands_at` meets its contract. The scan has passed only ports of the switch at which the processor does not stand. Assumes nothing.
use mathlib.Core.Path.{◌≡◌}
use Prim.Native.Nat.{ℕ, ◌<◌}
use Rattle.rules.specs.Net.{node}
use Rattle.rules.specs.Table.{house, far_of}
use Rattle.ways.proofs.stands_at.Given as goal

abbrev pub invariant-loop-p : goal.invariant-loop-p
invariant-loop-p l = (q : ℕ) → q < l.p → ¬ (far_of house l.fabric.table.now l.s q ≡ node l.target)
