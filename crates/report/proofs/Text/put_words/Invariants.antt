-- `report::Text::put_words` meets its contract. The invariant: the first words are put, a space behind each. Assumes nothing.
use mathlib.Core.Path.{◌≡◌}
use Rattle.report.proofs.TextLaws.{Worded}
use Rattle.report.proofs.Text.put_words.Given as goal

abbrev pub invariant-loop-w : goal.invariant-loop-w
invariant-loop-w l = (l.self.out.ghost_name ≡ l.fn.self.out.ghost_name) × Worded l.fn.words l.fn.self.len l.fn.self.out.now l.self.out.now l.self.len l.w-index
