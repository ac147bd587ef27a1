-- A text put into lent memory, and the texts that the functions put. Assumes nothing.
--
--   Put text at e o r      o is e with the text from the offset `at` on, and r is the offset behind it
--   Puts text old new       the same of a text in a lent buffer, which stays the same buffer
--   Room n text             the buffer has room for n bytes more
--   spaced_numbers ns       numbers, a space behind each
--   Ready b t from         the table t and the offset of the first pair are those of the input b, whose fields are good
use Rattle.std.specs.Prelude.{ℕ, ◌+◌, ◌*◌, ◌≤◌, ◌≡◌, List, [], ◌∷◌, ◌++◌, length, get_or, take, drop}
use Rattle.report.specs.declared.Text.{Text}
use Rattle.rules.specs.Table.{house}
use Rattle.rules.specs.Print.{decimal, most_input}
use Rattle.rules.specs.Text.{lines}
use Rattle.rules.specs.RunFields.{rows, pairs, entries}

pub record Put (text : List ℕ) (at : ℕ) (e o : List ℕ) (r : ℕ) : Type 0 where
  pub end : r ≡ at + length text
  pub memory : o ≡ take at e ++ (text ++ drop (at + length text) e)

pub record Puts (text : List ℕ) (old new : Text) : Type 0 where
  pub same : new.out.ghost_name ≡ old.out.ghost_name
  pub put : Put text old.len old.out.now new.out.now new.len

abbrev pub Room : ℕ → Text → Type 0
Room n text = text.len + n ≤ length text.out.now

-- a number and a space
abbrev pub spaced_number : ℕ → List ℕ
spaced_number n = decimal n ++ (32 ∷ [])

-- numbers, a space behind each
unfoldable pub spaced_numbers : List ℕ → List ℕ
spaced_numbers ns = lines (length ns) (λ i. spaced_number (get_or ns i 0))

-- the input is short enough, its fields end with it, and its entries are the table
pub record Ready (b t : List ℕ) (from : ℕ) : Type 0 where
  pub short : length b ≤ most_input
  pub table : t ≡ entries b (rows b house.most)
  pub starts : from ≡ 19 * rows b house.most
  pub ends : length b ≡ from + 7 * pairs b house.most
