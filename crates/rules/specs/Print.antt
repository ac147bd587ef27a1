-- What the program `routes` prints, byte by byte, and the name of each way that a walk ends. Assumes nothing.
--
--   ascii s                the bytes of a text
--   decimal n, hex w       a number in decimal; a byte in two capital hexadecimal digits
--   spaced fs              the fields with one space between them
--   line a d r ws          the line of a pair with the answer r and the words ws
--   too_long_text, bad_field_text, heading     the other lines
--   Printed z t a d l      l is the line that `routes` prints for the pair
--   ending_text e          01's name of the ending
use Rattle.std.specs.Prelude.{ℕ, zero, suc, ◌+◌, ◌/◌, ◌%◌, cond, List, [], ◌∷◌, ◌++◌, map, ◌≡◌, take, replicate, ltb, eqb, codes}
use Prim.Native.String.{String, len, char_at}
use Prim.Native.Char.{code}
use Rattle.rules.specs.Answers.{Answer}
use Rattle.rules.specs.declared.Ending.{Ending}
use Rattle.rules.specs.declared.Ending.TheVariants.{Delivered, Leftover, Empty, Off, Short}
use Rattle.rules.specs.Sets.{tabulate}
use Rattle.rules.specs.Table.{Sizes}
use Rattle.rules.specs.Refusals.{most_hops}
use Rattle.rules.specs.Promise.{Issued}

-- the bytes of an ASCII text
unfoldable pub ascii : String → List ℕ
ascii s = tabulate (len s) (λ i. code (char_at s i))

-- ASCII: a digit below 10 from 48 on, then the capitals from 65 on
unfoldable pub digit : ℕ → ℕ
digit x = cond (ltb x 10) (48 + x) (55 + x)

-- the digits of n, for any k that is not less than n
unfoldable pub digits : ℕ → ℕ → List ℕ
digits zero n = digit n ∷ []
digits (suc k) n = let r = digits k (n / 10) ++ (digit (n % 10) ∷ []) in cond (ltb n 10) (digit n ∷ []) r

-- 01: "Other fields are decimal"
unfoldable pub decimal : ℕ → List ℕ
decimal n = digits n n

-- 01: "two capital hexadecimal digits each"
unfoldable pub hex : ℕ → List ℕ
hex w = digit (w / 16) ∷ digit (w % 16) ∷ []

-- 01: "one space stands between fields and between words"
unfoldable pub spaced : List (List ℕ) → List ℕ
spaced [] = []
spaced (f ∷ []) = f
spaced (f ∷ g ∷ fs) = f ++ (32 ∷ spaced (g ∷ fs))

-- every line ends in one line feed
abbrev pub ended : List ℕ → List ℕ
ended l = l ++ (10 ∷ [])

-- 01: "words in two capital hexadecimal digits each, or `-` on refusal"
unfoldable pub shown : Answer → List ℕ → List (List ℕ)
shown r ws = cond (eqb r.number 0) (map hex ws) (ascii "-" ∷ [])

-- 01: "source, destination, number, distance, count, tries, words"
unfoldable pub line : ℕ → ℕ → Answer → List ℕ → List ℕ
line a d r ws =
    ended (spaced (decimal a ∷ decimal d ∷ decimal r.number ∷ decimal r.distance ∷ decimal r.count ∷ decimal r.tries ∷ shown r ws))

-- 01: "the heading shown below"
unfoldable pub heading : List ℕ
heading = ended (ascii "src dst ans dist count tries words")

-- 01: "the single line `input too long`"
unfoldable pub too_long_text : List ℕ
too_long_text = ended (ascii "input too long")

-- 01: "only `bad field at ` and the offset in decimal"
unfoldable pub bad_field_text : ℕ → List ℕ
bad_field_text q = ended (ascii "bad field at " ++ decimal q)

-- 01: "reads up to 65,536 bytes of fields"
abbrev pub most_input : ℕ
most_input = 65536

-- the answer of header issue, and the words that it wrote
pub record Printed (z : Sizes) (t : List ℕ) (a d : ℕ) (l : List ℕ) : Type 0 where
  pub answer : Answer
  pub out : List ℕ
  pub issued : Issued z t a d (replicate most_hops 0) answer out
  pub so : l ≡ line a d answer (take answer.distance out)

-- 01: "DELIVERED (at a processor, no words left); LEFTOVER (at a processor, some left); EMPTY .. OFF .. SHORT"
abbrev pub ending_text : Ending → List ℕ
ending_text Delivered = codes "DELIVERED"
ending_text Leftover = codes "LEFTOVER"
ending_text Empty = codes "EMPTY"
ending_text Off = codes "OFF"
ending_text Short = codes "SHORT"
