-- `header::common_of` meets its contract. The scan meets the members lowest first and misses none, and the ports are those common to the
-- masks of the members met. Assumes nothing.
use lib.ListN.{get_or}
use Rattle.header.proofs.ScanLaws.{Left, CommonTo}
use Rattle.header.proofs.Net.common_of.Given as goal

abbrev pub invariant-loop-s : goal.invariant-loop-s
invariant-loop-s l = Left l.set l.s-iterator.0 × CommonTo (λ u. get_or l.self.masks.now u 0) l.set l.s-iterator.0 l.ports
