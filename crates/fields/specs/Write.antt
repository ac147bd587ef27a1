-- House fields written from a table and a list of pairs. Assumes nothing.
--
--   big x           the two bytes of a number, the most significant first
--   row_field e      the field of a switch whose entry at port p is e p
--   pair_field p     the field of a pair, source then destination
--   written t ps    a field for each eight entries of t, then one for each pair
use Rattle.std.specs.Prelude.{ℕ, ◌+◌, ◌*◌, ◌/◌, ◌%◌, List, [], ◌∷◌, ◌++◌, length, get_or}
use Rattle.rules.specs.Text.{lines}

unfoldable pub big : ℕ → List ℕ
big x = x / 256 ∷ x % 256 ∷ []

unfoldable pub row_field : (ℕ → ℕ) → List ℕ
row_field e = 1 ∷ 0 ∷ 16 ∷ lines 8 (λ p. big (e p))

unfoldable pub pair_field : ℕ × ℕ → List ℕ
pair_field p = 2 ∷ 0 ∷ 4 ∷ big p.0 ++ big p.1

unfoldable pub written : List ℕ → List (ℕ × ℕ) → List ℕ
written t ps = lines (length t / 8) (λ s. row_field (λ p. get_or t (8 * s + p) 0)) ++ lines (length ps) (λ i. pair_field (get_or ps i (0, 0)))
