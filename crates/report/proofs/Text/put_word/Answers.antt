-- `report::Text::put_word` meets its contract: three bytes are put, one behind the other. Assumes nothing.
use mathlib.Core.Path.{◌∙◌}
use Rattle.report.proofs.TextLaws.{word_put}
use Rattle.report.proofs.Text.put_word.Goals as goal

pub returns : goal.returns
returns c = record {
  same = c.put_byte-3.ensures.same ∙ c.put_byte-2.ensures.same ∙ c.put_byte.ensures.same;
  put = word_put c.args.w _ _ _ _ _ c.requires c.digit.ensures c.digit-2.ensures c.put_byte.ensures.put c.put_byte-2.ensures.put c.put_byte-3.ensures.put;
}
