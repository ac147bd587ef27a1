-- `fields::count_fields` meets its contract: the first field that is missing, or the bound, ends the fields passed. Assumes nothing.
use mathlib.Core.Path.{sym, ◌∙◌}
use Rattle.fields.proofs.Laws.{field_stop, field_full}
use Rattle.fields.proofs.count_fields.Goals as goal

pub returns-then-not-is_field : goal.returns-then-not-is_field
returns-then-not-is_field c = field_stop _ _ _ _ _ _ c.loop-k.invariant (sym c.is_field.ensures ∙ c.if-not-is_field.true)

pub returns : goal.returns
returns c = field_full _ _ _ _ _ _ c.loop-k.invariant c.loop-k-test.false
