-- Going down a list of refusals by computing, and the answer that comes of it. Nothing here has to be believed (see Run). Assumes nothing.
--
--   Looked, first ls     a refusal's number with its place where it is given; the first of the list that is given
--   when b, least_at n f  place 0 where b is true; the least place below n that passes
--   answered j n c k     the values where j accepts, and zeros where it refuses
use Rattle.std.specs.Prelude.{ℕ, Bool, cond, List, [], ◌∷◌, eqb, ltb}
use Rattle.std.specs.Prelude.{Option, None, Some}
use Rattle.rules.specs.Answers.{Judgement, Answer}
use Rattle.rules.specs.Sets.{least}

abbrev pub Looked : Type 0
Looked = ℕ × Option ℕ

unfoldable pub pick : ℕ → Option ℕ → Judgement → Judgement
pick k None r = r
pick k (Some q) r = record { number = k; place = q }

unfoldable pub first : List Looked → Judgement
first [] = record { number = 0; place = 0 }
first (l ∷ ls) = let r = first ls in pick l.0 l.1 r

unfoldable pub when : Bool → Option ℕ
when b = cond b (Some 0) None

unfoldable pub least_at : ℕ → (ℕ → Bool) → Option ℕ
least_at n f = let i = least n f in cond (ltb i n) (Some i) None

unfoldable pub accepted : Judgement → Bool
accepted j = eqb j.number 0

unfoldable pub answered : Judgement → ℕ → ℕ → ℕ → Answer
answered j n count k =
    let r : Answer = record { number = j.number; place = j.place; distance = n; count = count; tries = k } in
    cond (accepted j) r (record { number = j.number; place = j.place; distance = 0; count = 0; tries = 0 })
