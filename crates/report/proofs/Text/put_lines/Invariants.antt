-- `report::Text::put_lines` meets its contract. The invariant: the heading and the lines of the first i pairs are put. Assumes nothing.
use mathlib.Core.Path.{◌≡◌}
use Rattle.report.proofs.LinesLaws.{Lined}
use Rattle.report.proofs.Text.put_lines.Given as goal

abbrev pub invariant-loop-i : goal.invariant-loop-i
invariant-loop-i l = (l.self.out.ghost_name ≡ l.fn.self.out.ghost_name) × Lined l.input l.initial.self.out.now l.initial.self.len l.pairs l.self.out.now l.self.len l.i
