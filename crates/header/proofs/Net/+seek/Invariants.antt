-- `header::seek` meets its contract. With one word left the widest header is all common ports. Else the loop keeps the widest of the headers
-- whose first word is below the next choice, and the tries so far: the definitions' own recursion, word by word. A set that is alike to the one
-- a word reaches gives the same, and what is kept of the set that was searched last is what the recursion would give again. The measure is
-- the words left. Assumes nothing.
use Prim.Native.Nat.{◌+◌}
use mathlib.Core.Path.{◌≡◌}
use Rattle.header.specs.Search.{next_choice}
use Rattle.header.proofs.Searching.{Search, Memory}
use Rattle.header.proofs.Net.+seek.Given as goal

abbrev pub decreases-seek : goal.decreases-seek
decreases-seek l = l.left

abbrev pub invariant-loop-word : goal.invariant-loop-word
invariant-loop-word l =
    Search l.self.fabric.table.now l.self.masks.now l.set l.left l.budget l.ports l.best l.tries (next_choice (l.word-iterator.last + 1) l.ports)
    × (l.word-iterator.ports ≡ l.ports) × Memory l.self.fabric.table.now l.self.masks.now l.left l.kept l.below
