-- `fields::fill` meets its contract. The invariant: the first i entries stand over the start of what the table held, and the rest is as it
-- was. Assumes nothing.
use mathlib.Core.Path.{◌≡◌}
use mathlib.Core.List.{◌++◌}
use lib.ListN.{take, drop}
use Rattle.rules.specs.RunFields.{entries}
use Rattle.fields.proofs.fill.Given as goal

abbrev pub invariant-loop-i : goal.invariant-loop-i
invariant-loop-i l = l.table ≡ take l.i (entries l.bytes l.switches) ++ drop l.i l.initial.table
