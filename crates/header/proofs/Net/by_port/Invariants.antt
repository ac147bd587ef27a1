-- `header::by_port` meets its contract. After p turns the ports below p that are followed have the sets that they reach alone, and all others
-- the empty set. Assumes nothing.
use lib.ListN.{replicate}
use Rattle.rules.specs.Table.{house, far_of, switches}
use Rattle.found.proofs.StoreLaws.{Stored}
use Rattle.header.specs.Search.{singles}
use Rattle.header.proofs.Net.by_port.Given as goal

abbrev pub invariant-loop-p : goal.invariant-loop-p
invariant-loop-p l = Stored (singles (far_of house l.self.fabric.table.now) (switches l.self.fabric.table.now) l.set l.ports) (replicate 8 0) l.sets l.p
