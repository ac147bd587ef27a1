-- `header::alike` meets its contract. Both sets have the common ports found first, and after p turns those of them below p have reached the same
-- set from both. Assumes nothing.
use Rattle.rules.specs.Table.{house, far_of, switches}
use Rattle.header.proofs.GroupLaws.{ReachSame}
use Rattle.header.proofs.Net.alike.Given as goal

abbrev pub invariant-loop-p : goal.invariant-loop-p
invariant-loop-p l = ReachSame (far_of house l.self.fabric.table.now) (switches l.self.fabric.table.now) l.a l.b l.ports l.p
