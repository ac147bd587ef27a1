-- 01's cases to prove, 1 to 4, as one table: what is asked, and what is told. Assumes nothing.
--
--   A, B           01's networks          lent       nine bytes 7, lent for a header or for masks
--   Asked, Told    an operation with its input; all that it gives and leaves
--   answer q       what the twins give    Keeps q r  r keeps the operation's promise
--   cases          the table
use Rattle.std.specs.Prelude.{ℕ, ◌+◌, List, [], ◌∷◌, ◌++◌, replicate}
use Prim.Native.String.{String}
use Rattle.rules.specs.Answers.{Answer, Verdict, Neither, No, Yes}
use Rattle.rules.specs.Table.{house}
use Rattle.rules.specs.Promise.{Issued, Masked, Tested}
use Rattle.rules.specs.Print.{ascii, ended, Printed}
use Rattle.rules.specs.RunPair.{issue_answer, issue_memory, mask_answer, mask_memory, test_of}
use Rattle.rules.specs.RunFields.{pair_line}

-- what stands at ports 0 to 7 of a switch
abbrev pub row : ℕ → ℕ → ℕ → ℕ → ℕ → ℕ → ℕ → ℕ → List ℕ
row a b c d e f g h = a ∷ b ∷ c ∷ d ∷ e ∷ f ∷ g ∷ h ∷ []

abbrev pub dash : ℕ
dash = 65535

-- the entry of a processor
abbrev pub processor : ℕ → ℕ
processor a = 1000 + a

abbrev pub A : List ℕ
A =
    row (processor 0) (processor 1) dash dash 2 3 dash dash
    ++ row (processor 2) (processor 3) dash dash 2 3 dash dash
    ++ row 0 1 dash dash dash dash dash dash
    ++ row 0 dash 1 dash dash dash dash dash

abbrev pub B : List ℕ
B =
    row (processor 0) dash dash dash 1 2 dash dash
    ++ row 3 3 3 dash dash dash dash dash
    ++ row dash dash 3 dash dash dash dash dash
    ++ row (processor 1) dash dash dash dash dash dash dash

abbrev pub lent : List ℕ
lent = replicate 9 7

pub data Asked : Type 0 where
  header : List ℕ → ℕ → ℕ → Asked
  masks : List ℕ → ℕ → ℕ → Asked
  test : List ℕ → ℕ → ℕ → List ℕ → Asked
  printed : List ℕ → ℕ → ℕ → Asked

pub record Told : Type 0 where
  pub answer : Answer
  pub says : Verdict
  pub bytes : List ℕ

-- number, distance, count, tries; every place is 0
abbrev pub told : ℕ → ℕ → ℕ → ℕ → Verdict → List ℕ → Told
told number n count k says bytes = record {
  answer = record { number = number; place = 0; distance = n; count = count; tries = k };
  says = says;
  bytes = bytes;
}

unfoldable pub answer : Asked → Told
answer (header t a d) = record { answer = issue_answer house t a d lent; says = Neither; bytes = issue_memory house t a d lent }
answer (masks t a d) = record { answer = mask_answer house t a d lent; says = Neither; bytes = mask_memory house t a d lent }
answer (test t a d ws) = let r = test_of house t a d ws in record { answer = r.answer; says = r.says; bytes = [] }
answer (printed t a d) = told 0 0 0 0 Neither (pair_line house t a d)

unfoldable pub Keeps : Asked → Told → Type 0
Keeps (header t a d) r = Issued house t a d lent r.answer r.bytes
Keeps (masks t a d) r = Masked house t a d lent r.answer r.bytes
Keeps (test t a d ws) r = Tested house t a d ws (record { answer = r.answer; says = r.says })
Keeps (printed t a d) r = Printed house t a d r.bytes

pub record Case : Type 0 where
  pub asked : Asked
  pub gives : Told

infix 40 ◌⊳◌
abbrev pub ◌⊳◌ : Asked → Told → Case
q ⊳ r = record { asked = q; gives = r }

abbrev pub prints : List ℕ → ℕ → ℕ → String → Case
prints t a d s = printed t a d ⊳ told 0 0 0 0 Neither (ended (ascii s))

unfoldable pub cases : List Case
cases =
    (header A 0 2 ⊳ told 0 3 1 5 Neither (0x10 ∷ 0x02 ∷ 0x01 ∷ 0 ∷ 0 ∷ 0 ∷ 0 ∷ 0 ∷ 7 ∷ []))
    ∷ (header A 2 0 ⊳ told 0 3 2 6 Neither (0x30 ∷ 0x01 ∷ 0x01 ∷ 0 ∷ 0 ∷ 0 ∷ 0 ∷ 0 ∷ 7 ∷ []))
    ∷ (header A 0 1 ⊳ told 0 1 1 0 Neither (0x02 ∷ 0 ∷ 0 ∷ 0 ∷ 0 ∷ 0 ∷ 0 ∷ 0 ∷ 7 ∷ []))
    ∷ (header A 3 3 ⊳ told 5 0 0 0 Neither lent)
    ∷ (header A 0 9 ⊳ told 4 0 0 0 Neither lent)
    ∷ prints A 0 2 "0 2 0 3 1 5 10 02 01"
    ∷ prints A 2 0 "2 0 0 3 2 6 30 01 01"
    ∷ prints A 0 1 "0 1 0 1 1 0 02"
    ∷ prints A 3 3 "3 3 5 0 0 0 -"
    ∷ prints A 0 9 "0 9 4 0 0 0 -"
    ∷ (masks A 0 2 ⊳ told 0 3 0 0 Neither (0x30 ∷ 0x01 ∷ 0x02 ∷ 0x04 ∷ 7 ∷ 7 ∷ 7 ∷ 7 ∷ 7 ∷ []))
    ∷ (test A 0 2 (0x10 ∷ 0x02 ∷ 0x01 ∷ []) ⊳ told 0 0 0 0 Yes [])
    ∷ (test A 0 2 (0x20 ∷ 0x04 ∷ 0x01 ∷ []) ⊳ told 0 0 0 0 Yes [])
    ∷ (test A 0 2 (0x30 ∷ 0x02 ∷ 0x01 ∷ []) ⊳ told 0 0 0 0 No [])
    ∷ (test A 0 2 (0x10 ∷ 0x02 ∷ []) ⊳ told 0 0 0 0 No [])
    ∷ (header B 0 1 ⊳ told 0 3 3 12 Neither (0x10 ∷ 0x07 ∷ 0x01 ∷ 0 ∷ 0 ∷ 0 ∷ 0 ∷ 0 ∷ 7 ∷ []))
    ∷ (header B 1 0 ⊳ told 6 0 0 0 Neither lent)
    ∷ []
