-- `header::follow` meets its contract. The scan meets the members lowest first and misses none, and the set is that of the switches to which
-- the members met link by the port. Assumes nothing.
use Rattle.rules.specs.Table.{house, far_of}
use Rattle.header.proofs.ScanLaws.{Left}
use Rattle.header.proofs.FollowLaws.{Follows}
use Rattle.header.proofs.Net.follow.Given as goal

abbrev pub invariant-loop-s : goal.invariant-loop-s
invariant-loop-s l = Left l.set l.s-iterator.0 × Follows (far_of house l.self.fabric.table.now) l.p l.set l.s-iterator.0 l.reached
