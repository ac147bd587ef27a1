-- `ways::expand` meets its contract. A port whose entry is a switch is a link to it, and every other port is none; so after p turns the
-- first p ports of the switch have been gone over. Assumes nothing.
use lib.ListN.{get_or}
use Rattle.rules.specs.Table.{house, far_of, switches}
use Rattle.ways.proofs.SearchCode.{Going}
use Rattle.ways.proofs.expand.Given as goal

abbrev pub invariant-loop-p : goal.invariant-loop-p
invariant-loop-p l = Going (far_of house l.fabric.table.now) (switches l.fabric.table.now) (get_or l.initial.search.order 0 0) 64 l.next l.s l.deeper l.search.order l.search.depth l.search.reached l.p
