-- "Where several hold, the lowest number is given, except that 12 comes before all." The numbers of each operation's list of refusals rise,
-- so what is said is no higher than any that holds. Assumes nothing.
use Prim.Native.Nat.{ℕ, zero, ◌≤◌, ◌<◌}
use native.Mathlib.Omega.{arith}
use mathlib.Core.Path.{◌≡◌}
use mathlib.Core.Logic.{◌⊎◌, ⊎_elim}
use mathlib.Core.List.{List, [], ◌∷◌, ◌++◌}
use Rattle.rules.specs.Answers.{Judgement, Answer, TestAnswer, WalkAnswer, FieldAnswer}
use Rattle.rules.specs.Table.{Sizes, switches, Attached}
use Rattle.rules.specs.Refusals.{Refusal, Says, plain, most_hops, of_table, of_pair, too_far, too_short, too_many, too_long, too_few}
use Rattle.rules.specs.Promise.{Judged, Measured, Masked, Issued, Tested}
use Rattle.rules.specs.Walk.{Walked}
use Rattle.rules.specs.Fields.{bad_field, Filled}

-- the numbers of the list rise from above j on
unfoldable pub Rising : ℕ → List Refusal → Type 0
Rising j [] = Unit {0}
Rising j (r ∷ rs) = (j < r.number) × Rising r.number rs

-- a refusal of the list with the number k holds
unfoldable pub Holding : ℕ → List Refusal → Type 0
Holding k [] = ⊥
Holding k (r ∷ rs) = ((k ≡ r.number) × ((q : ℕ) × r.given q)) ⊎ Holding k rs

holding-above : (j k : ℕ) (rs : List Refusal) → Rising j rs → Holding k rs → j < k
unfolding Rising Holding
holding-above j k [] l h = absurd h
holding-above j k (r ∷ rs) l h =
    let m = l.0 in ⊎_elim (λ i. let e = i.0 in omega arith) (λ i. let n = holding-above r.number k rs l.1 i in omega arith) h

-- what is said is a refusal, and none that holds has a lower number
abbrev pub Least : ℕ → List Refusal → Type 0
Least n rs = (k : ℕ) → Holding k rs → (zero < n) × (n ≤ k)

says-least : (j : ℕ) (rs : List Refusal) → Rising j rs → (n p : ℕ) → Says rs n p → Least n rs
unfolding Rising Holding Says
says-least j [] l n p h k g = absurd g
says-least j (r ∷ rs) l n p h k g =
    ⊎_elim
    (λ i. let m = l.0 in let e = i.0 in ⊎_elim (λ f. let x = f.0 in (omega arith, omega arith)) (λ f. let x = holding-above r.number k rs l.1 f in (omega arith, omega arith)) g)
    (λ i. ⊎_elim (λ f. absurd (i.0 f.1.0 f.1.1)) (λ f. says-least r.number rs l.1 n p i.1 k f) g) h

module _ (z : Sizes) (t : List ℕ) where
  pub judged-least : (r : Judgement) → Judged z t r → Least r.number (of_table z t)
  unfolding Rising
  judged-least r h = says-least 0 (of_table z t) (omega arith, (omega arith, (omega arith, tt))) r.number r.place h.answer

  module _ (a d : ℕ) where
    -- 1 to 6, and then what the operation adds
    pair-rising : (rs : List Refusal) → Rising 6 rs → Rising 0 (of_pair z t a d ++ rs)
    unfolding Rising
    pair-rising rs l = (omega arith, (omega arith, (omega arith, (omega arith, (omega arith, (omega arith, l))))))

    pub measured-least : (r : Answer) → Measured z t a d r → Least r.number (of_pair z t a d ++ [])
    unfolding Rising
    measured-least r h = says-least 0 (of_pair z t a d ++ []) (pair-rising [] tt) r.number r.place h.answer

    pub masked-least : (out : List ℕ) (r : Answer) (o : List ℕ) → Masked z t a d out r o → Least r.number (of_pair z t a d ++ (too_far z t a d ∷ too_short (switches t) out ∷ []))
    unfolding Rising
    masked-least out r o h =
        let more = too_far z t a d ∷ too_short (switches t) out ∷ [] in says-least 0 (of_pair z t a d ++ more) (pair-rising more (omega arith, (omega arith, tt))) r.number r.place h.answer

    pub tested-least : (ws : List ℕ) (r : TestAnswer) → Tested z t a d ws r → Least r.answer.number (of_pair z t a d ++ (too_far z t a d ∷ []))
    unfolding Rising
    tested-least ws r h =
        let more = too_far z t a d ∷ [] in says-least 0 (of_pair z t a d ++ more) (pair-rising more (omega arith, tt)) r.answer.number r.answer.place h.answer

    pub issued-least : (out : List ℕ) (r : Answer) (o : List ℕ) → Issued z t a d out r o → Least r.number (of_pair z t a d ++ (too_far z t a d ∷ too_short most_hops out ∷ too_many z t a d ∷ []))
    unfolding Rising
    issued-least out r o h =
        let more = too_far z t a d ∷ too_short most_hops out ∷ too_many z t a d ∷ [] in
        says-least 0 (of_pair z t a d ++ more) (pair-rising more (omega arith, (omega arith, (omega arith, tt)))) r.number r.place h.answer

  pub walked-least : (a : ℕ) (ws cs : List ℕ) (r : WalkAnswer) → Walked z t a ws cs r → Least r.number (of_table z t ++ (plain 4 (¬ (Attached z t a)) ∷ too_long ws ∷ too_few ws cs ∷ []))
  unfolding Rising
  walked-least a ws cs r h =
      says-least 0 _ (omega arith, (omega arith, (omega arith, (omega arith, (omega arith, (omega arith, tt)))))) r.number r.place h.answer

-- 12 comes before 8
pub filled-twelve : (z : Sizes) (b out : List ℕ) (r : FieldAnswer) (o : List ℕ) → Filled z b out r o → (q : ℕ) → (bad_field b z).given q → r.number ≡ 12
unfolding Says
filled-twelve z b out r o h q g = ⊎_elim (λ i. i.0) (λ i. absurd (i.0 q g)) h.answer
