-- `ways::all_masks` meets its contract. The nearer switches stand before the farther in the order, so when a switch's turn comes, back from
-- the last, all switches one deeper have their masks; a switch deeper than the distance, or never reached, has mask 0. Assumes nothing.
use Rattle.rules.specs.Table.{house, far_of, switches}
use Rattle.rules.specs.Run.{mask_of}
use Rattle.ways.proofs.MaskCode.{Written}
use Rattle.ways.proofs.all_masks.Given as goal

abbrev pub invariant-loop-i : goal.invariant-loop-i
invariant-loop-i l = Written (mask_of (far_of house l.fabric.table.now) (switches l.fabric.table.now) l.target l.met.home) l.met.found.order l.met.found.reached l.masks l.i
