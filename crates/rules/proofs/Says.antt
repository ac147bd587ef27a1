-- Going down a list of refusals: no second number and place can be said, and what `first` finds is what is said. Assumes nothing.
use Prim.Native.Nat.{ℕ, zero, ◌<◌}
use native.Mathlib.Nat.{le_antisymm}
use native.Mathlib.Omega.{arith}
use mathlib.Core.Path.{◌≡◌, refl, sym, ap, ◌∙◌, subst}
use mathlib.Core.Logic.{inl, inr, ⊎_elim, ◌↔◌}
use mathlib.Core.Bool.{Bool, true, false, cond}
use mathlib.Core.List.{List, [], ◌∷◌, ◌++◌, append-nil}
use Rattle.std.specs.Prelude.{Option, None, Some}
use lib.Dec.{T, eqb, ltb, ltb→lt, lt→ltb, eqb→eq, eqb_refl}
use lib.ListN.{length}
use Rattle.rules.specs.Answers.{Judgement, Answer}
use Rattle.rules.specs.Sets.{least}
use Rattle.rules.specs.Refusals.{Refusal, Says, plain, Lowest, lowest, too_short}
use Rattle.rules.specs.Look.{Looked, pick, first, when, least_at, accepted, answered}
use Rattle.rules.proofs.SetLaws.{not-lt, T_true, true-T, same-T, eq-T, Least, least-is, least_under}

-- what a judgement says
abbrev pub Told : List Refusal → Judgement → Type 0
Told rs j = Says rs j.number j.place

abbrev pub Never : Refusal → Type 0
Never r = (q : ℕ) → ¬ (r.given q)

-- each refusal of the list has one place at most, and its number is not 0
unfoldable pub Placed : List Refusal → Type 0
Placed [] = Unit {0}
Placed (r ∷ rs) = (zero < r.number) × ((p q : ℕ) → r.given p → r.given q → p ≡ q) × Placed rs

-- none of the list is given
unfoldable pub Clear : List Refusal → Type 0
Clear [] = Unit {0}
Clear (r ∷ rs) = Never r × Clear rs

-- ---- no second answer

pub says-only : (rs : List Refusal) → Placed rs → (m n p q : ℕ) → Says rs m p → Says rs n q → (m ≡ n) × (p ≡ q)
unfolding Says Placed
says-only [] l m n p q h k = (h.0 ∙ sym k.0, h.1 ∙ sym k.1)
says-only (r ∷ rs) l m n p q h k =
    ⊎_elim
    (λ i. ⊎_elim (λ j. (i.0 ∙ sym j.0, l.1 p q i.1 j.1)) (λ j. absurd (j.0 p i.1)) k)
    (λ i. ⊎_elim (λ j. absurd (i.0 q j.1)) (λ j. says-only rs l.2 m n p q i.1 j.1) k) h

-- number 0 is said exactly where none is given
pub says-clear : (rs : List Refusal) → Placed rs → (n p : ℕ) → Says rs n p → n ≡ 0 → Clear rs
unfolding Says Placed Clear
says-clear [] l n p h e = tt
says-clear (r ∷ rs) l n p h e =
    ⊎_elim (λ i. let a = l.0 in let b = i.0 in absurd (omega arith)) (λ i. (i.0, says-clear rs l.2 n p i.1 e)) h

pub clear-says : (rs : List Refusal) → Clear rs → (n p : ℕ) → Says rs n p → (n ≡ 0) × (p ≡ 0)
unfolding Says Clear
clear-says [] c n p h = h
clear-says (r ∷ rs) c n p h = ⊎_elim (λ i. absurd (c.0 p i.1)) (λ i. clear-says rs c.1 n p i.1) h

-- what is never given says nothing
pub says_past : (qs rs : List Refusal) → Clear qs → (n p : ℕ) → Says (qs ++ rs) n p → Says rs n p
unfolding Says Clear
says_past [] rs c n p h = h
says_past (r ∷ qs) rs c n p h = ⊎_elim (λ i. absurd (c.0 p i.1)) (λ i. says_past qs rs c.1 n p i.1) h

pub plain-one : {A : Type 0} (p q : ℕ) → A × (p ≡ 0) → A × (q ≡ 0) → p ≡ q
plain-one p q h k = h.1 ∙ sym k.1

pub lowest-one : {P : ℕ → Type 0} (i j : ℕ) → Lowest P i → Lowest P j → i ≡ j
lowest-one i j h k = le_antisymm (not-lt (λ l. h.first j l k.here)) (not-lt (λ l. k.first i l h.here))

-- ---- what is found is said

-- the place found is where the refusal is given; none is found where it never is
unfoldable pub Decides : Refusal → Option ℕ → Type 0
Decides r None = Never r
Decides r (Some q) = r.given q

-- one row: the rest need only be right where this one is not given
pub says-step : (r : Refusal) (rs : List Refusal) (o : Option ℕ) (ls : List Looked) → Decides r o → (Never r → Told rs (first ls)) → Told (r ∷ rs) (first ((r.number, o) ∷ ls))
unfolding Says Decides first pick
says-step r rs None ls h k = inr (h, k h)
says-step r rs (Some q) ls h k = inl (refl, h)

pub says-end : Told [] (first [])
unfolding Says first
says-end = (refl, refl)

pub plain-decides : (k : ℕ) (A : Type 0) (b : Bool) → (T b ↔ A) → Decides (plain k A) (when b)
unfolding Decides when
plain-decides k A true e = (e.0 tt, refl)
plain-decides k A false e = λ q h. e.1 h.0

pub plain-never : {A : Type 0} → ((q : ℕ) → ¬ (A × (q ≡ 0))) → ¬ A
plain-never h a = h 0 (a, refl)

module _ (k : ℕ) (P : ℕ → Type 0) (n : ℕ) (f : ℕ → Bool) (e : (i : ℕ) → ((i < n) × T (f i)) ↔ P i) where
  pub lowest-decides : Decides (lowest k P) (least_at n f)
  unfolding least_at Decides
  lowest-decides = at (ltb (least n f) n) refl (least-is n f)
    where
      at : (b : Bool) → ltb (least n f) n ≡ b → Least n f (least n f) → Decides (lowest k P) (cond b (Some (least n f)) None)
      at true l h =
          let m = ltb→lt (least n f) n (T_true l) in
          record { here = (e (least n f)).0 (m, h.hit m); first = λ j g p. h.before j g ((e j).1 p).1 }
      at false l h = λ q w.
          let i = (e q).1 w.here in
          let g = least_under h i.1 in
          let m : least n f < n = omega (arith, i.0) in subst T l (lt→ltb (least n f) n m)

  -- where it is not given, no number has P
  pub lowest-never : Never (lowest k P) → (i : ℕ) → ¬ (P i)
  lowest-never h i p =
      let l = (e i).1 p in
      let j = least-is n f in
      let g = least_under j l.1 in
      let m : least n f < n = omega (arith, l.0) in
      h (least n f) (record { here = (e (least n f)).0 (m, j.hit m); first = λ x y w. j.before x y ((e x).1 w).1 })

pub short-decides : (needs : ℕ) (out : List ℕ) → Decides (too_short needs out) (when (ltb (length out) needs))
short-decides needs out = plain-decides 8 (length out < needs) (ltb (length out) needs) (ltb→lt (length out) needs, lt→ltb (length out) needs)

-- ---- one list of refusals after another

-- no number of the list is 0
unfoldable pub Numbered : List Looked → Type 0
Numbered [] = Unit {0}
Numbered (l ∷ ls) = (zero < l.0) × Numbered ls

-- what the first list gives stands
pub first-stop : (ls ms : List Looked) → ¬ ((first ls).number ≡ 0) → first (ls ++ ms) ≡ first ls
unfolding first pick
first-stop [] ms h = absurd (h refl)
first-stop (l ∷ ls) ms h = at l.1 h (first-stop ls ms)
  where
    at : (o : Option ℕ) → ¬ ((pick l.0 o (first ls)).number ≡ 0) → (¬ ((first ls).number ≡ 0) → first (ls ++ ms) ≡ first ls) → pick l.0 o (first (ls ++ ms)) ≡ pick l.0 o (first ls)
    at None k ih = ih k
    at (Some q) k ih = refl

-- and where it gives none, the second goes on
pub first_past : (ls ms : List Looked) → Numbered ls → (first ls).number ≡ 0 → first (ls ++ ms) ≡ first ms
unfolding first pick Numbered
first_past [] ms n h = refl
first_past (l ∷ ls) ms n h = at l.1 h (first_past ls ms n.1)
  where
    at : (o : Option ℕ) → (pick l.0 o (first ls)).number ≡ 0 → ((first ls).number ≡ 0 → first (ls ++ ms) ≡ first ms) → pick l.0 o (first (ls ++ ms)) ≡ first ms
    at None k ih = ih k
    at (Some q) k ih = let e = n.0 in absurd (omega arith)

pub first-zero : (ls : List Looked) → Numbered ls → (first ls).number ≡ 0 → first ls ≡ record { number = 0; place = 0 }
unfolding first
first-zero ls n h = sym (ap first (append-nil ls)) ∙ first_past ls [] n h

-- ---- accepted or refused

pub accepted-zero : (j : Judgement) → accepted j ≡ true → j.number ≡ 0
unfolding accepted
accepted-zero j e = eqb→eq j.number 0 (T_true e)

pub refused-not : (j : Judgement) → accepted j ≡ false → ¬ (j.number ≡ 0)
unfolding accepted
refused-not j e h = subst T e (subst (λ (n : ℕ). T (eqb n 0)) (sym h) (eqb_refl 0))

pub refused-false : (j : Judgement) → ¬ (j.number ≡ 0) → accepted j ≡ false
unfolding accepted
refused-false j h = same-T (eqb j.number 0) false (λ e. h (eqb→eq j.number 0 e)) (λ e. absurd e)

pub accepted-true : (j : Judgement) → j.number ≡ 0 → accepted j ≡ true
unfolding accepted
accepted-true j h = true-T (eqb j.number 0) (eq-T j.number 0 h)

-- the values of an answer that is accepted, and the zeros of one that is refused
pub answered-accepted : (j : Judgement) (n c k : ℕ) → j.number ≡ 0 → answered j n c k ≡ record { number = j.number; place = j.place; distance = n; count = c; tries = k }
unfolding answered
answered-accepted j n c k h =
    ap (λ (b : Bool). cond {A = Answer} b (record { number = j.number; place = j.place; distance = n; count = c; tries = k }) (record { number = j.number; place = j.place; distance = 0; count = 0; tries = 0 }))
    (accepted-true j h)

pub answered-refused : (j : Judgement) (n c k : ℕ) → ¬ (j.number ≡ 0) → answered j n c k ≡ record { number = j.number; place = j.place; distance = 0; count = 0; tries = 0 }
unfolding answered
answered-refused j n c k h =
    ap (λ (b : Bool). cond {A = Answer} b (record { number = j.number; place = j.place; distance = n; count = c; tries = k }) (record { number = j.number; place = j.place; distance = 0; count = 0; tries = 0 }))
    (refused-false j h)

-- an answer with no count and no tries, where the place is 0 too
pub answered-zero : (j : Judgement) (n : ℕ) → j.place ≡ 0 → j.number ≡ 0 → answered j n 0 0 ≡ record { number = 0; place = 0; distance = n; count = 0; tries = 0 }
answered-zero j n p h = answered-accepted j n 0 0 h ∙ (λ i. record { number = h i; place = p i; distance = n; count = 0; tries = 0 })

pub answered-number : (j : Judgement) (n c k : ℕ) → (answered j n c k).number ≡ j.number
unfolding answered
answered-number j n c k = at (accepted j)
  where
    at : (b : Bool) → (cond {A = Answer} b (record { number = j.number; place = j.place; distance = n; count = c; tries = k }) (record { number = j.number; place = j.place; distance = 0; count = 0; tries = 0 })).number ≡ j.number
    at true = refl
    at false = refl

pub answered-place : (j : Judgement) (n c k : ℕ) → (answered j n c k).place ≡ j.place
unfolding answered
answered-place j n c k = at (accepted j)
  where
    at : (b : Bool) → (cond {A = Answer} b (record { number = j.number; place = j.place; distance = n; count = c; tries = k }) (record { number = j.number; place = j.place; distance = 0; count = 0; tries = 0 })).place ≡ j.place
    at true = refl
    at false = refl

-- and what a memory that depends on it holds
pub kept-accepted : (j : Judgement) (o out : List ℕ) → j.number ≡ 0 → cond (accepted j) o out ≡ o
kept-accepted j o out h = ap (λ (b : Bool). cond b o out) (accepted-true j h)

pub kept-refused : (j : Judgement) (o out : List ℕ) → ¬ (j.number ≡ 0) → cond (accepted j) o out ≡ out
kept-refused j o out h = ap (λ (b : Bool). cond b o out) (refused-false j h)

-- ---- one row that has no place

pub first-none : (k : ℕ) (b : Bool) (ls : List Looked) → b ≡ false → first ((k, when b) ∷ ls) ≡ first ls
unfolding first when pick
first-none k b ls e = ap (λ (c : Bool). pick k (when c) (first ls)) e

pub first_some : (k : ℕ) (b : Bool) (ls : List Looked) → b ≡ true → first ((k, when b) ∷ ls) ≡ record { number = k; place = 0 }
unfolding first when pick
first_some k b ls e = ap (λ (c : Bool). pick k (when c) (first ls)) e
