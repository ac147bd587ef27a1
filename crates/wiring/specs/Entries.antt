-- What is read at a port, and what it says to a reader who keeps something for each of 64 switches. Assumes nothing.
--
--   entry_at t s p     what the entry of port p of switch s is; where there is no such switch or port, nothing
--   Inside e           a switch that the entry names is one of an array of 64
use Rattle.std.specs.Prelude.{ℕ, ◌+◌, ◌*◌, ◌<◌, cond, ◌&&◌, List, ltb}
use Rattle.rules.specs.declared.Entry.{Entry}
use Rattle.rules.specs.declared.Entry.TheVariants.{Switch, Node, Nothing, Bad}
use Rattle.rules.specs.Table.{house, kind_at, switches}

-- eight entries for each switch, switch 0 first, port 0 first
unfoldable pub entry_at : List ℕ → ℕ → ℕ → Entry
entry_at t s p = cond (ltb s (switches t) && ltb p 8) (kind_at house t (8 * s + p)) Nothing

abbrev pub Inside : Entry → Type 0
Inside (Switch v) = v < 64
Inside (Node a) = Unit {0}
Inside Nothing = Unit {0}
Inside Bad = Unit {0}
