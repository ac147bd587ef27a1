-- `wiring::find` meets its contract. The scan has passed only ports where the processor does not stand, so the first at which it stands is
-- the least. Assumes nothing.
use Prim.Native.Nat.{◌*◌}
use Rattle.rules.specs.Table.{house, kind_at, switches}
use Rattle.rules.specs.RunTable.{is_entry_of}
use Rattle.wiring.proofs.Laws.{Passed}
use Rattle.wiring.proofs.find.Given as goal

abbrev pub invariant-loop-i : goal.invariant-loop-i
invariant-loop-i l = Passed (8 * switches l.table) (λ k. is_entry_of l.node (kind_at house l.table k)) l.i
