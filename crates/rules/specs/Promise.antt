-- What each operation on a table promises for every input: number and place, values, and every byte of what was lent to it. The words are
-- those of Net, Header and Table; of what computes, only 01's rule for tries is named. Assumes nothing.
--
--   Judged z t r              the judge              Measured z t a d r            distance
--   Masked z t a d out r o    mask issue             Issued z t a d out r o        header issue
--   Tested z t a d ws r       the header test        (out the lent output before, o after)
use Rattle.std.specs.Prelude.{ℕ, ◌-◌, ◌<◌, ◌≡◌, ◌⊎◌, ◌↔◌, List, [], ◌∷◌, ◌++◌, length, get_or, drop, replicate, T}
use Rattle.rules.specs.Answers.{Judgement, Answer, TestAnswer, Neither, No, Yes}
use Rattle.rules.specs.Sets.{has}
use Rattle.rules.specs.Net.{Distance, InMask}
use Rattle.rules.specs.Header.{permits, Best, Passes}
use Rattle.rules.specs.Table.{Sizes, switches, far_of, Stands}
use Rattle.rules.specs.Refusals.{Says, most_hops, of_table, of_pair, too_far, too_short, too_many, tries_from}

-- 01: "On refusal all but number and place are 0"
pub record Blank (r : Answer) : Type 0 where
  pub distance : r.distance ≡ 0
  pub count : r.count ≡ 0
  pub tries : r.tries ≡ 0

module _ (z : Sizes) (t : List ℕ) where
  -- 01: refusals 1 to 3, "given exactly when", each with its place; "On success the number is 0 and the place is 0."
  pub record Judged (r : Judgement) : Type 0 where
    pub answer : Says (of_table z t) r.number r.place

  module _ (a d : ℕ) where
    -- 01: "Distance uses 1 to 6 and returns the distance with count and tries 0."
    pub record Measured (r : Answer) : Type 0 where
      pub answer : Says (of_pair z t a d) r.number r.place
      pub refused : ¬ (r.number ≡ 0) → Blank r
      pub distance : r.number ≡ 0 → (s : ℕ) → Stands z t a s → Distance (far_of z t) s d r.distance
      pub zeros : (r.count ≡ 0) × (r.tries ≡ 0)

    -- 01: "Mask issue uses 1 to 8, needs N bytes, writes the first N, keeps the rest, and returns the distance with count and tries 0."
    pub record Masked (out : List ℕ) (r : Answer) (o : List ℕ) : Type 0 where
      pub answer : Says (of_pair z t a d ++ (too_far z t a d ∷ too_short (switches t) out ∷ [])) r.number r.place
      pub refused : ¬ (r.number ≡ 0) → Blank r × (o ≡ out)
      pub distance : r.number ≡ 0 → (s : ℕ) → Stands z t a s → Distance (far_of z t) s d r.distance
      pub zeros : (r.count ≡ 0) × (r.tries ≡ 0)
      pub bytes : r.number ≡ 0 → (u : ℕ) → u < switches t → get_or o u 0 < 256
      pub masks : r.number ≡ 0 → (s u p : ℕ) → Stands z t a s → u < switches t → T (has p (get_or o u 0)) ↔ InMask (far_of z t) s d u p
      pub kept : r.number ≡ 0 → (length o ≡ length out) × (drop (switches t) o ≡ drop (switches t) out)

    -- 00, demand 3, and 01: "the first n become the words, the rest of the first eight become 0, later bytes keep their contents. It
    -- returns the distance, as count the number of lists that the issued header permits, and the tries."
    pub record Header (s : ℕ) (out : List ℕ) (r : Answer) (o : List ℕ) : Type 0 where
      pub words : List ℕ
      pub best : Best (Passes (far_of z t) s d) words
      pub distance : Distance (far_of z t) s d r.distance
      pub count : r.count ≡ permits words
      pub tries : r.tries ≡ tries_from z t s d r.distance
      pub memory : o ≡ words ++ (replicate (most_hops - length words) 0 ++ drop most_hops out)

    -- 01: "Header issue uses 1 to 9. It needs 8 output bytes."
    pub record Issued (out : List ℕ) (r : Answer) (o : List ℕ) : Type 0 where
      pub answer : Says (of_pair z t a d ++ (too_far z t a d ∷ too_short most_hops out ∷ too_many z t a d ∷ [])) r.number r.place
      pub refused : ¬ (r.number ≡ 0) → Blank r × (o ≡ out)
      pub issued : r.number ≡ 0 → (s : ℕ) → Stands z t a s → Header s out r o

    -- 01: "The header test uses 1 to 7, where it says neither yes nor no, and otherwise says yes or no, with distance, count and tries 0"
    pub record Tested (ws : List ℕ) (r : TestAnswer) : Type 0 where
      pub answer : Says (of_pair z t a d ++ (too_far z t a d ∷ [])) r.answer.number r.answer.place
      pub blank : Blank r.answer
      pub refused : ¬ (r.answer.number ≡ 0) → r.says ≡ Neither
      pub either : r.answer.number ≡ 0 → (r.says ≡ Yes) ⊎ (r.says ≡ No)
      pub tested : r.answer.number ≡ 0 → (s : ℕ) → Stands z t a s → (r.says ≡ Yes) ↔ Passes (far_of z t) s d ws
