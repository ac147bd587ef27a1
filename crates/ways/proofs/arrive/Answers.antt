use Rattle.std.proofs.Common.{sym, ◌∙◌}
use Rattle.ways.proofs.SearchCode.{first_hit}
use Rattle.ways.proofs.arrive.Goals as goal

pub returns-then-stands_at : goal.returns-then-stands_at
returns-then-stands_at c = first_hit _ _ _ c.loop-i-test.true c.loop-i.invariant (sym c.stands_at.ensures ∙ c.if-stands_at.true)
