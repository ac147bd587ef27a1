-- The one 64-bit number that a call of the C library gives. Assumes nothing.
--
--   laid ps            numbers side by side, the first in the lowest bits: of each its width in bits and its value, modulo that width
--   part i w n         the w bits of n from bit i on
--   packed, packed_test, packed_walk, packed_fields      an answer as one number
--   Packs pack P n     n is an answer with the property P, packed
use Rattle.std.specs.Prelude.{ℕ, ◌+◌, ◌*◌, ◌/◌, ◌%◌, ◌^◌, ◌≡◌, cond, List, [], ◌∷◌, eqb}
use Rattle.rules.specs.Answers.{Answer, Verdict, Neither, No, Yes, TestAnswer, Ending, None, Delivered, Leftover, Empty, Off, Short, WalkAnswer, FieldAnswer}

unfoldable pub laid : List (ℕ × ℕ) → ℕ
laid [] = 0
laid (p ∷ ps) = p.1 % 2 ^ p.0 + 2 ^ p.0 * laid ps

unfoldable pub part : ℕ → ℕ → ℕ → ℕ
part i w n = n / 2 ^ i % 2 ^ w

-- 01: "the refusal number in the lowest 8 bits; above it, on refusal the place, on success .."; the place has the 56 bits that are left
unfoldable pub packs : ℕ → ℕ → List (ℕ × ℕ) → ℕ
packs number place parts = laid ((8, number) ∷ cond (eqb number 0) parts ((56, place) ∷ []))

-- 01: "going upwards, the distance (8 bits), count (24) and tries (24)"
unfoldable pub packed : Answer → ℕ
packed r = packs r.number r.place ((8, r.distance) ∷ (24, r.count) ∷ (24, r.tries) ∷ [])

-- 1 is yes, 2 is no
unfoldable pub verdict_number : Verdict → ℕ
verdict_number Neither = 0
verdict_number Yes = 1
verdict_number No = 2

unfoldable pub packed_test : TestAnswer → ℕ
packed_test r = packs r.answer.number r.answer.place ((8, verdict_number r.says) ∷ [])

-- 01's endings in their order, from 1 on
unfoldable pub ending_number : Ending → ℕ
ending_number None = 0
ending_number Delivered = 1
ending_number Leftover = 2
ending_number Empty = 3
ending_number Off = 4
ending_number Short = 5

-- the ending, the processor or switch, hops, and words left
unfoldable pub packed_walk : WalkAnswer → ℕ
packed_walk r = packs r.number r.place ((8, ending_number r.ending) ∷ (16, r.at) ∷ (8, r.hops) ∷ (8, r.left) ∷ [])

-- the number of switches, and the offset of the first tag 2
unfoldable pub packed_fields : FieldAnswer → ℕ
packed_fields r = packs r.number r.place ((8, r.switches) ∷ (48, r.pairs) ∷ [])

-- 01: "It gets one 64-bit number back"
pub record Packs {A : Type 0} (pack : A → ℕ) (P : A → Type 0) (n : ℕ) : Type 0 where
  pub answer : A
  pub so : P answer
  pub is : n ≡ pack answer
