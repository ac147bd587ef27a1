-- `ways::search_from` meets its contract. The search keeps its queue, of which one switch more has been gone on from after each turn; where
-- none is left, the depths are those of shortest lists. Assumes nothing.
use Prim.Native.Nat.{◌-◌}
use Rattle.rules.specs.Table.{house, far_of, switches}
use Rattle.ways.specs.Search.{Queue}
use Rattle.ways.proofs.search_from.Given as goal

abbrev pub invariant-loop-next : goal.invariant-loop-next
invariant-loop-next l = Queue (far_of house l.fabric.table.now) (switches l.fabric.table.now) l.home l.search.order l.search.depth l.search.reached l.next

abbrev pub decreases-loop-next : goal.decreases-loop-next
decreases-loop-next l = 64 - l.next
