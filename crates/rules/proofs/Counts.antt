-- Counts and sums over the numbers below a bound. All go by induction on the bound: a number more adds its own part and changes no other.
-- Assumes nothing.
use Prim.Native.Nat.{ℕ, zero, suc, ◌+◌, ◌*◌, ◌≤◌, ◌<◌, zero-le}
use native.Mathlib.Nat.{le_refl, le_trans, le_of_eq, le_of_suc-le-suc, le-add_right, eq-or-lt_of_le, not-suc-le-zero}
use native.Mathlib.Omega.{arith}
use mathlib.Core.Path.{◌≡◌, sym, ap, subst}
use mathlib.Core.Logic.{⊎_elim}
use mathlib.Core.Bool.{Bool, true, false, cond}
use lib.Dec.{T, eqb, eqb→eq}
use lib.Arith.{le-zero}
use lib.Count.{ones, ones_in}
use Rattle.rules.specs.Sets.{count, sum, all, has}
use Rattle.rules.proofs.SetLaws.{lt-cases, all-at}

pub count-le : (n : ℕ) (f : ℕ → Bool) → count n f ≤ n
unfolding count sum
count-le zero f = zero-le
count-le (suc n) f = at (f n) (count-le n f)
  where
    at : (b : Bool) → count n f ≤ n → count n f + cond b 1 0 ≤ suc n
    at true h = omega arith
    at false h = omega arith

weigh : (a b : Bool) → (T a → T b) → cond a 1 0 ≤ cond b 1 0
weigh true true h = le_refl 1
weigh true false h = absurd (h tt)
weigh false b h = zero-le

weigh-more : (a b : Bool) → (T a → ⊥) → T b → cond a 1 0 < cond b 1 0
weigh-more true b h k = absurd (h tt)
weigh-more false true h k = le_refl 1
weigh-more false false h k = absurd k

module _ (f g : ℕ → Bool) (part : (s : ℕ) → T (f s) → T (g s)) where
  pub count-part : (n : ℕ) → count n f ≤ count n g
  unfolding count sum
  count-part zero = zero-le
  count-part (suc n) = let h = count-part n in let k = weigh (f n) (g n) (part n) in omega arith

  pub count-more : (n s : ℕ) → s < n → (T (f s) → ⊥) → T (g s) → count n f < count n g
  unfolding count sum
  count-more zero s l h k = absurd (not-suc-le-zero l)
  count-more (suc n) s l h k =
      ⊎_elim
      (λ e. let u = count-part n in let v = weigh-more (f n) (g n) (λ t. h (subst (λ (x : ℕ). T (f x)) (sym e) t)) (subst (λ (x : ℕ). T (g x)) e k) in omega arith)
      (λ e. let u = count-more n s e h k in let v = weigh (f n) (g n) (part n) in omega arith)
      (lt-cases l)

-- a sum in which only those that pass b count, with at most m each
pub sum-le : (b : ℕ → Bool) (f : ℕ → ℕ) (m : ℕ) → ((w : ℕ) → f w ≤ cond (b w) m 0) → (n : ℕ) → sum n f ≤ count n b * m
unfolding count sum
sum-le b f m h zero = zero-le
sum-le b f m h (suc n) = at (b n) (h n) (sum-le b f m h n)
  where
    at : (c : Bool) → f n ≤ cond c m 0 → sum n f ≤ count n b * m → sum n f + f n ≤ (count n b + cond c 1 0) * m
    at true i j = omega arith
    at false i j = omega arith

-- a part of a sum is no more than the whole: a count that has passed a limit stays past it
pub sum-part : (f : ℕ → ℕ) (i n : ℕ) → i ≤ n → sum i f ≤ sum n f
unfolding sum
sum-part f i zero l = le_of_eq (ap (λ (k : ℕ). sum k f) (le-zero l))
sum-part f i (suc n) l = ⊎_elim (λ e. le_of_eq (ap (λ (k : ℕ). sum k f) e)) (λ k. le_trans (sum-part f i n (le_of_suc-le-suc k)) (le-add_right (sum n f) (f n))) (eq-or-lt_of_le l)

-- ---- of bytes: one computed test each

ones-table : T (all 256 (λ w. eqb (ones w) (count 8 (λ p. has p w))))
unfolding all count sum has ones ones_in
ones-table = tt

-- the ones of a byte are its members
pub ones-count : (w : ℕ) → w < 256 → ones w ≡ count 8 (λ p. has p w)
ones-count w l = eqb→eq (ones w) (count 8 (λ p. has p w)) (all-at 256 (λ w. eqb (ones w) (count 8 (λ p. has p w))) ones-table w l)
