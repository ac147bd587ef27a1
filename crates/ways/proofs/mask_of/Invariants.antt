-- `ways::mask_of` meets its contract. After each turn the mask is the set of the ports gone over that lead on. Assumes nothing.
use lib.ListN.{get_or}
use mathlib.Core.Path.{◌≡◌}
use Rattle.rules.specs.Sets.{set_of}
use Rattle.rules.specs.Table.{house, far_of}
use Rattle.ways.specs.Onward.{ahead}
use Rattle.ways.proofs.mask_of.Given as goal

abbrev pub invariant-loop-p : goal.invariant-loop-p
invariant-loop-p l = l.mask ≡ set_of l.p (λ q. ahead l.target l.last l.depth l.masks (get_or l.depth l.s 0) (far_of house l.fabric.table.now l.s q))
