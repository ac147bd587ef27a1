-- House fields: a one-byte tag, a two-byte length and the value, numbers with the most significant byte first. What the field reader and
-- header issue over fields promise. Assumes nothing.
--
--   two b i             the two-byte number at offset i
--   Field b tag n i     a whole field of this tag and length stands at offset i; Row: tag 1; Pair: tag 2
--   Upto b z k p i      k fields of tag 1 and then p of tag 2 stand whole at the start, and end at offset i
--   Next b z k p i      a field that may follow them stands at i
--   bad_field, bad_row    refusal 12, of the field reader and of the C call
--   Holds b k t         t begins with the entries of the first k fields
--   Filled z b out r o  the promise of the field reader          Loaded z b a d out r o   that of header issue over the fields of tag 1
use Rattle.std.specs.Prelude.{ℕ, ◌+◌, ◌*◌, ◌/◌, ◌%◌, ◌≤◌, ◌<◌, ◌≡◌, ◌⊎◌, List, [], ◌∷◌, length, get_or, drop}
use Rattle.rules.specs.Answers.{Answer, FieldAnswer}
use Rattle.rules.specs.Table.{Sizes}
use Rattle.rules.specs.Refusals.{Refusal, Says, too_short}
use Rattle.rules.specs.Promise.{Blank, Issued}

module _ (b : List ℕ) where
  -- 01: "all numbers most significant byte first"
  abbrev pub two : ℕ → ℕ
  two i = 256 * get_or b i 0 + get_or b (i + 1) 0

  -- 01: "one-byte tag, two-byte length, value"
  pub record Field (tag n i : ℕ) : Type 0 where
    pub tagged : get_or b i 0 ≡ tag
    pub long : two (i + 1) ≡ n
    pub whole : i + 3 + n ≤ length b

  -- 01: "Tag 1, length 16: the eight entries of the next switch. Tag 2, length 4: a pair, source then destination."
  abbrev pub Row : ℕ → Type 0
  Row i = Field 1 16 i

  abbrev pub Pair : ℕ → Type 0
  Pair i = Field 2 4 i

  -- the offset after k fields of tag 1 and p of tag 2
  abbrev pub offset : ℕ → ℕ → ℕ
  offset k p = 19 * k + 7 * p

  -- 01: "the eight entries of the next switch": entry i of t is that of port i % 8 in the field of switch i / 8
  abbrev pub Holds : ℕ → List ℕ → Type 0
  Holds k t = (i : ℕ) → i < 8 * k → get_or t i 0 ≡ two (19 * (i / 8) + 3 + 2 * (i % 8))

  module _ (z : Sizes) where
    -- the fields before the first bad one: tag 1 at most 64 times, and then tag 2
    pub record Upto (k p i : ℕ) : Type 0 where
      pub few : k ≤ z.most
      pub rows : (j : ℕ) → j < k → Row (offset j 0)
      pub pairs : (j : ℕ) → j < p → Pair (offset k j)
      pub ends : i ≡ offset k p

    -- 01: "Bad is the first field that is cut short, has another tag or length, is a tag 1 after a tag 2, or is a 65th tag 1."
    abbrev pub Next : ℕ → ℕ → ℕ → Type 0
    Next k p i = (Row i × (p ≡ 0) × (k < z.most)) ⊎ Pair i

    -- 01, refusal 12: "offset of that field's first byte"
    abbrev pub bad_field : Refusal
    bad_field = record { number = 12; given = λ q. (k : ℕ) × (p : ℕ) × Upto k p q × (q < length b) × ¬ (Next k p q) }

    -- in the C call "a tag 2 is bad"
    abbrev pub bad_row : Refusal
    bad_row = record { number = 12; given = λ q. (k : ℕ) × Upto k 0 q × (q < length b) × ¬ (Row q × (k < z.most)) }

-- 01: "The field reader fills a lent table with the entries, leaves the rest of it, and returns the number of switches and the offset of
-- the first tag 2 (the input's length if there is none). It refuses with 12, or with 8 if the lent table holds fewer than 512 numbers.
-- Refusing, it returns 0 for both."
pub record Filled (z : Sizes) (b out : List ℕ) (r : FieldAnswer) (o : List ℕ) : Type 0 where
  pub answer : Says (bad_field b z ∷ too_short (8 * z.most) out ∷ []) r.number r.place
  pub refused : ¬ (r.number ≡ 0) → (r.switches ≡ 0) × (r.pairs ≡ 0) × (o ≡ out)
  pub found : r.number ≡ 0 → (p : ℕ) × Upto b z r.switches p (length b) × (r.pairs ≡ offset b r.switches 0)
  pub entries : r.number ≡ 0 → Holds b r.switches o
  pub kept : r.number ≡ 0 → (length o ≡ length out) × (drop (8 * r.switches) o ≡ drop (8 * r.switches) out)

-- 01: the loader "calls header issue with numbers and byte slices: tag 1 fields, two processors, an output. There a tag 2 is bad."
pub record Loaded (z : Sizes) (b : List ℕ) (a d : ℕ) (out : List ℕ) (r : Answer) (o : List ℕ) : Type 0 where
  pub bad : (q : ℕ) → (bad_row b z).given q → (r.number ≡ 12) × (r.place ≡ q) × Blank r × (o ≡ out)
  pub issued : (k : ℕ) (t : List ℕ) → Upto b z k 0 (length b) → length t ≡ 8 * k → Holds b k t → Issued z t a d out r o
