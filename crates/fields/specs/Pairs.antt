-- The two processors of a pair's field, on every input and at every offset. Assumes nothing.
use Rattle.std.specs.Prelude.{ℕ, ◌+◌, cond, List, length, leb}
use Rattle.rules.specs.Fields.{two}
use Rattle.fields.specs.declared.Ends.{Ends}

-- source and destination of the field at the offset; 0 and 0 where fewer than seven bytes stand there
unfoldable pub pair_at : List ℕ → ℕ → Ends
pair_at b at = cond (leb (at + 7) (length b)) (record { source = two b (at + 3); target = two b (at + 5) }) (record { source = 0; target = 0 })
