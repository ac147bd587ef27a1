-- What `routes` prints for an input, and the promise of the function that makes it. Assumes nothing.
--
--   lines n f             f 0 to f (n - 1), one after the other
--   Lines z b t k p l     l is the heading and a line for each of p pairs, after the k switches of the table t
--   Tells z b l           l is what `routes` prints for the input b
--   Reported z b out n o  the promise: that text, n bytes long, at the start of the lent output
use Rattle.std.specs.Prelude.{ℕ, zero, suc, ◌+◌, ◌*◌, ◌≤◌, ◌<◌, ◌≡◌, List, [], ◌++◌, length, drop}
use Rattle.rules.specs.Table.{Sizes}
use Rattle.rules.specs.Fields.{two, offset, Holds, Upto, bad_field}
use Rattle.rules.specs.Print.{heading, too_long_text, bad_field_text, most_input, Printed}

unfoldable pub lines : ℕ → (ℕ → List ℕ) → List ℕ
lines zero f = []
lines (suc n) f = f 0 ++ lines n (λ i. f (suc i))

-- 01: "it prints the heading shown below and a line for each pair, in input order"
pub record Lines (z : Sizes) (b t : List ℕ) (k p : ℕ) (l : List ℕ) : Type 0 where
  pub line : ℕ → List ℕ
  pub each : (i : ℕ) → i < p → Printed z t (two b (offset b k i + 3)) (two b (offset b k i + 5)) (line i)
  pub all : l ≡ heading ++ lines p line

-- 01: "A longer input gives the single line `input too long`; a bad field gives only `bad field at ` and the offset in decimal."
pub record Tells (z : Sizes) (b l : List ℕ) : Type 0 where
  pub long : most_input < length b → l ≡ too_long_text
  pub bad : length b ≤ most_input → (q : ℕ) → (bad_field b z).given q → l ≡ bad_field_text q
  pub good : length b ≤ most_input → (k p : ℕ) (t : List ℕ) → Upto b z k p (length b) → length t ≡ 8 * k → Holds b k t → Lines z b t k p l

-- the room in which every text fits
abbrev pub most_text : ℕ
most_text = 524288

-- no text, and nothing written, where the lent output is shorter than that
pub record Reported (z : Sizes) (b out : List ℕ) (n : ℕ) (o : List ℕ) : Type 0 where
  pub short : length out < most_text → (n ≡ 0) × (o ≡ out)
  pub text : most_text ≤ length out → (l : List ℕ) × Tells z b l × (n ≡ length l) × (o ≡ l ++ drop (length l) out)
