-- The refusals of 01's table, row by row, and the order in which they are given. Assumes nothing.
--
--   Refusal              a number of 01's table, and what makes it be given with a place
--   Says rs k q          k and q are the number and place of the first refusal of the list rs that is given; 0 and 0 where none is
--   of_table, of_pair, ..  the rows, and the lists of them that the operations use, in their order
use Rattle.std.specs.Prelude.{ℕ, ◌-◌, ◌^◌, ◌<◌, ◌≡◌, ◌⊎◌, List, [], ◌∷◌, ◌++◌, length}
use Rattle.rules.specs.Net.{Distance, Unreachable}
use Rattle.rules.specs.Tries.{limit, tries}
use Rattle.rules.specs.Run.{mask_of}
use Rattle.rules.specs.Table.{Sizes, switches, far_of, WrongLength, BadAt, Again, Stands, Attached}

pub record Refusal : Type 1 where
  pub number : ℕ
  pub given : ℕ → Type 0

-- 01: "Where several hold, the lowest number is given, except that 12 comes before all." "On success the number is 0 and the place is 0."
unfoldable pub Says : List Refusal → ℕ → ℕ → Type 0
Says [] number place = (number ≡ 0) × (place ≡ 0)
Says (r ∷ rs) number place = ((number ≡ r.number) × r.given place) ⊎ (((q : ℕ) → ¬ (r.given q)) × Says rs number place)

-- 01: "A refusal for which no place is named has place 0."
abbrev pub plain : ℕ → Type 0 → Refusal
plain k A = record { number = k; given = λ q. A × (q ≡ 0) }

-- 01: "lowest such index in the table", "lowest index whose .."
pub record Lowest (P : ℕ → Type 0) (i : ℕ) : Type 0 where
  pub here : P i
  pub first : (j : ℕ) → j < i → ¬ (P j)

abbrev pub lowest : ℕ → (ℕ → Type 0) → Refusal
lowest k P = record { number = k; given = Lowest P }

-- 01: "the distance is over 8", "It needs 8 output bytes", and of the walk "the header has over 8 words"
abbrev pub most_hops : ℕ
most_hops = 8

-- ---- 01's table: the lent output is too short (8), over 8 words (10), fewer choice bytes than words (11)

abbrev pub too_short : ℕ → List ℕ → Refusal
too_short needs out = plain 8 (length out < needs)

abbrev pub too_long : List ℕ → Refusal
too_long ws = plain 10 (most_hops < length ws)

abbrev pub too_few : List ℕ → List ℕ → Refusal
too_few ws cs = plain 11 (length cs < length ws)

module _ (z : Sizes) (t : List ℕ) where
  -- 1 to 3
  abbrev pub of_table : List Refusal
  of_table = plain 1 (WrongLength z t) ∷ lowest 2 (BadAt z t) ∷ lowest 3 (Again z t) ∷ []

  -- the tries by 01's rule, from switch s at distance n
  abbrev pub tries_from : ℕ → ℕ → ℕ → ℕ
  tries_from s d n = tries (far_of z t) (switches t) (mask_of (far_of z t) (switches t) d s) (n - 1) (2 ^ s)

  module _ (a d : ℕ) where
    -- "a named processor isn't attached"
    abbrev pub Missing : Type 0
    Missing = ¬ (Attached z t a × Attached z t d)

    -- "no chain of links joins them"
    abbrev pub NoChain : Type 0
    NoChain = (s : ℕ) → Stands z t a s → Unreachable (far_of z t) s d

    -- 4 to 6
    abbrev pub apart : List Refusal
    apart = plain 4 Missing ∷ plain 5 (a ≡ d) ∷ plain 6 NoChain ∷ []

    -- 1 to 6
    abbrev pub of_pair : List Refusal
    of_pair = of_table ++ apart

    -- "the distance is over 8"
    abbrev pub too_far : Refusal
    too_far = plain 7 ((s : ℕ) × (n : ℕ) × Stands z t a s × Distance (far_of z t) s d n × (most_hops < n))

    -- "tries would pass 65,536"
    abbrev pub too_many : Refusal
    too_many = plain 9 ((s : ℕ) × (n : ℕ) × Stands z t a s × Distance (far_of z t) s d n × (limit < tries_from s d n))
