-- `header::grouped` meets its contract. At every turn the sets are those of the ports alone or alike to them: a set is only put in the place of
-- one that is found to be alike. Assumes nothing.
use lib.ListN.{get_or}
use Rattle.rules.specs.Table.{house, far_of, switches}
use Rattle.header.proofs.GroupLaws.{Grouping}
use Rattle.header.proofs.Net.grouped.Given as goal

abbrev pub invariant-loop-p : goal.invariant-loop-p
invariant-loop-p l = Grouping (far_of house l.self.fabric.table.now) (switches l.self.fabric.table.now) (λ s. get_or l.self.masks.now s 0) l.set l.ports l.sets l.first
