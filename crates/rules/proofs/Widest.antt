-- The widest of the headers with a property, found word by word: no network is in it.
-- Assumes nothing.
use Prim.Native.Nat.{ℕ, zero, suc, ◌*◌, ◌%◌, ◌/◌, ◌≤◌, ◌<◌}
use native.Mathlib.Nat.{le_refl, le_trans, le_of_eq, le_antisymm, le_of_suc-le-suc, not-suc-le-zero, mul-le-mul_left, eq-zero-or-pos, le_of_mul-le-mul_left, suc_inj, eq-or-lt_of_le}
use native.Mathlib.Omega.{arith}
use mathlib.Core.Path.{◌≡◌, refl, sym, ap, ap₂, ◌∙◌, subst}
use mathlib.Core.Logic.{◌⊎◌, inl, inr, ⊎_elim}
use mathlib.Core.Bool.{Bool, true, false, cond, not}
use mathlib.Core.List.{List, [], ◌∷◌}
use Rattle.std.specs.Prelude.{Option, None, Some}
use lib.Dec.{T, ltb, ltb→lt, nltb→le}
use lib.Count.{ones, ones_step}
use Rattle.rules.specs.Header.{permits, Before, Best}
use Rattle.rules.specs.Run.{wider, widest, put}

-- ---- the best is one

pub before_same : (g h : List ℕ) → Before g h → Before h g → g ≡ h
unfolding Before
before_same [] [] p q = refl
before_same [] (h ∷ hs) p q = absurd q
before_same (g ∷ gs) [] p q = absurd p
before_same (g ∷ gs) (h ∷ hs) p q =
    ⊎_elim (λ l. ⊎_elim (λ m. absurd (omega arith)) (λ m. let e = m.0 in absurd (omega arith)) q)
    (λ l. ⊎_elim (λ m. let e = l.0 in absurd (omega arith)) (λ m. ap₂ {C = List ℕ} (λ x xs. x ∷ xs) l.0 (before_same gs hs l.1 m.1)) q) p

pub best-one : {P : List ℕ → Type 0} {g h : List ℕ} → Best P g → Best P h → g ≡ h
best-one {g = g} {h = h} p q =
    let e : permits g ≡ permits h = le_antisymm (q.most g p.one) (p.most h q.one) in
    before_same g h (p.first h q.one (sym e)) (q.first g p.one e)

-- ---- an answer to "which is best": one, or that there is none

unfoldable pub Answers : (List ℕ → Type 0) → Option (List ℕ) → Type 0
Answers P None = (g : List ℕ) → P g → ⊥
Answers P (Some h) = Best P h

pub answers-iff : {P Q : List ℕ → Type 0} → ((g : List ℕ) → P g → Q g) → ((g : List ℕ) → Q g → P g) → (r : Option (List ℕ)) → Answers P r → Answers Q r
unfolding Answers
answers-iff f b None h = λ g q. h g (b g q)
answers-iff f b (Some r) h = record { one = f r h.one; most = λ g q. h.most g (b g q); first = λ g q. h.first g (b g q) }

-- The better of two answers, where all that the first is about stands before all that the second is about.
module _ {P Q : List ℕ → Type 0} (order : (g h : List ℕ) → P g → Q h → Before g h) where
  Both : List ℕ → Type 0
  Both g = P g ⊎ Q g

  better : (h g : List ℕ) (b : Bool) → ltb (permits h) (permits g) ≡ b → Best P h → Best Q g → Answers Both (cond b (Some g) (Some h))
  unfolding Answers Both
  better h g true e p q =
      let l : permits h < permits g = ltb→lt (permits h) (permits g) (subst T (sym e) tt) in
      record {
        one = inr q.one;
        most = λ f. ⊎_elim (λ i. let m = p.most f i in omega arith) (q.most f);
        first = λ f. ⊎_elim (λ i j. let m = p.most f i in absurd (omega arith)) (q.first f);
      }
  better h g false e p q =
      let l : permits g ≤ permits h = nltb→le (permits h) (permits g) (subst (λ (b : Bool). T (not b)) (sym e) tt) in
      record {
        one = inl p.one;
        most = λ f. ⊎_elim (p.most f) (λ i. le_trans (q.most f i) l);
        first = λ f. ⊎_elim (p.first f) (λ i j. order h f p.one i);
      }

  pub answers-both : (r q : Option (List ℕ)) → Answers P r → Answers Q q → Answers (λ g. P g ⊎ Q g) (wider r q)
  unfolding Answers wider Both
  answers-both None q h j = answers-iff (λ g i. inr i) (λ g. ⊎_elim (λ i. absurd (h g i)) (λ i. i)) q j
  answers-both (Some r) None h j = answers-iff {P = P} (λ g i. inl i) (λ g. ⊎_elim (λ i. i) (λ i. absurd (j g i))) (Some r) h
  answers-both (Some r) (Some q) h j = better r q (ltb (permits r) (permits q)) refl h j

-- the headers of P whose first word is below k, and those whose first word is k
unfoldable pub Under : (List ℕ → Type 0) → ℕ → List ℕ → Type 0
Under P k [] = ⊥
Under P k (w ∷ ws) = (w < k) × P (w ∷ ws)

At : (List ℕ → Type 0) → ℕ → List ℕ → Type 0
At P k [] = ⊥
At P k (w ∷ ws) = (w ≡ k) × P (w ∷ ws)

-- a nonempty word permits some port
ones-under : (k w : ℕ) → w ≤ k → zero < w → zero < ones w
ones-under zero w l h = absurd (omega arith)
ones-under (suc k) w l h =
    let e = ones_step w in
    ⊎_elim (λ z. let u : zero < ones (w / 2) = ones-under k (w / 2) (omega arith) (omega arith) in omega arith) (λ z. omega arith) (eq-zero-or-pos (w % 2))

pub ones_pos : (w : ℕ) → zero < w → zero < ones w
ones_pos w h = ones-under w w (le_refl w) h

module _ (P : List ℕ → Type 0) (k : ℕ) (pos : (ws : List ℕ) → P (k ∷ ws) → zero < k) where
  tail : (w : ℕ) (ws : List ℕ) → At P k (w ∷ ws) → P (k ∷ ws)
  unfolding At
  tail w ws i = subst (λ (x : ℕ). P (x ∷ ws)) i.0 i.1

  nowhere : ((ws : List ℕ) → P (k ∷ ws) → ⊥) → (g : List ℕ) → At P k g → ⊥
  unfolding At
  nowhere j [] i = i
  nowhere j (w ∷ ws) i = j ws (tail w ws i)

  answers-put : (q : Option (List ℕ)) → Answers (λ ws. P (k ∷ ws)) q → Answers (At P k) (put k q)
  unfolding Answers At put permits Before
  answers-put None j = nowhere j
  answers-put (Some q) j = record { one = (refl, j.one); most = most; first = first }
    where
      z : zero < ones k
      z = ones_pos k (pos q j.one)

      most : (g : List ℕ) → At P k g → permits g ≤ ones k * permits q
      most [] i = absurd i
      most (w ∷ ws) i = le_trans (le_of_eq (ap (λ (x : ℕ). ones x * permits ws) i.0)) (mul-le-mul_left (ones k) (j.most ws (tail w ws i)))

      first : (g : List ℕ) → At P k g → permits g ≡ ones k * permits q → Before (k ∷ q) g
      first [] i e = absurd i
      first (w ∷ ws) i e =
          let same : ones k * permits ws ≡ ones k * permits q = ap (λ (x : ℕ). ones x * permits ws) (sym i.0) ∙ e in
          inr (sym i.0, j.first ws (tail w ws i) (le_antisymm (le_of_mul-le-mul_left (le_of_eq same) z) (le_of_mul-le-mul_left (le_of_eq (sym same)) z)))

  -- one first word more
  pub answers-suc : (r q : Option (List ℕ)) → Answers (Under P k) r → Answers (λ ws. P (k ∷ ws)) q → Answers (Under P (suc k)) (wider r (put k q))
  unfolding Under At Before
  answers-suc r q h j = answers-iff join part (wider r (put k q)) (answers-both order r (put k q) h (answers-put q j))
    where
      order : (g h : List ℕ) → Under P k g → At P k h → Before g h
      order [] h i j = absurd i
      order (g ∷ gs) [] i j = absurd j
      order (g ∷ gs) (h ∷ hs) i j = let l = i.0 in let e = j.0 in inl (omega arith)

      join : (g : List ℕ) → Under P k g ⊎ At P k g → Under P (suc k) g
      join [] i = ⊎_elim (λ x. x) (λ x. x) i
      join (g ∷ gs) i = ⊎_elim (λ x. let l = x.0 in (omega arith, x.1)) (λ x. let e = x.0 in (omega arith, x.1)) i

      part : (g : List ℕ) → Under P (suc k) g → Under P k g ⊎ At P k g
      part [] i = absurd i
      part (g ∷ gs) i = ⊎_elim (λ e. inr (suc_inj e, i.1)) (λ l. inl (le_of_suc-le-suc l, i.1)) (eq-or-lt_of_le i.0)

-- all first words below n
module _ (P : List ℕ → Type 0) (pos : (w : ℕ) (ws : List ℕ) → P (w ∷ ws) → zero < w) (f : ℕ → Option (List ℕ)) (h : (w : ℕ) → Answers (λ ws. P (w ∷ ws)) (f w)) where
  none-under : (g : List ℕ) → Under P zero g → ⊥
  unfolding Under
  none-under [] i = i
  none-under (w ∷ ws) i = not-suc-le-zero i.0

  pub answers-widest : (n : ℕ) → Answers (Under P n) (widest n f)
  unfolding Answers widest
  answers-widest zero = none-under
  answers-widest (suc n) = answers-suc P n (pos n) (widest n f) (f n) (answers-widest n) (h n)
