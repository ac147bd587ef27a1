-- `header::join` meets its contract. After p turns the set is that of the ports below p that are in the word. Assumes nothing.
use mathlib.Core.Path.{◌≡◌}
use Rattle.header.specs.Search.{joined}
use Rattle.header.proofs.join.Given as goal

abbrev pub invariant-loop-p : goal.invariant-loop-p
invariant-loop-p l = (l.set ≡ joined l.sets l.w l.p)
