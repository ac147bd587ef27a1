-- `report::Text::put_numbers` meets its contract. The invariant: the first i numbers are put, a space behind each. Assumes nothing.
use mathlib.Core.List.{[]}
use lib.ListN.{get_or}
use Rattle.report.specs.Put.{spaced_number}
use mathlib.Core.Path.{◌≡◌}
use Rattle.report.proofs.RunLaws.{Run}
use Rattle.report.proofs.Text.put_numbers.Given as goal

abbrev pub invariant-loop-n : goal.invariant-loop-n
invariant-loop-n l = (l.self.out.ghost_name ≡ l.fn.self.out.ghost_name) × Run [] (λ j. spaced_number (get_or l.fn.numbers j 0)) l.fn.self.len l.fn.self.out.now l.self.out.now l.self.len l.n-index
