-- `report::Text::put_number` meets its contract: a space is put behind the digits. Assumes nothing.
use mathlib.Core.Path.{◌∙◌}
use Rattle.report.proofs.TextLaws.{number_put}
use Rattle.report.proofs.Text.put_number.Goals as goal

pub returns : goal.returns
returns c = record { same = c.put_byte.ensures.same ∙ c.put_decimal.ensures.same; put = number_put _ _ _ c.requires _ _ c.put_decimal.ensures.put _ _ c.put_byte.ensures.put }
