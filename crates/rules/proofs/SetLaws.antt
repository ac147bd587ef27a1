-- Laws of the sets of `Sets`: which members a set has, and when two sets are one number. A number is its binary digits, and a member is a digit 1.
-- Assumes nothing.
use Prim.Native.Nat.{ℕ, zero, suc, ◌+◌, ◌*◌, ◌-◌, ◌/◌, ◌%◌, ◌^◌, ◌≤◌, ◌<◌, suc-le-suc, zero-le, min, max}
use native.Mathlib.Nat.{le_antisymm, div-one, eq-or-lt_of_le, suc_inj, add_comm, le_refl, not-suc-le-zero, le_of_suc-le-suc, lt_of_lt_of_le, zero-min, zero-max, zero-lt-suc, lt_of_not-le}
use native.Mathlib.Omega.{arith}
use native.Mathlib.Numerals.{one-add}
use mathlib.Core.Path.{◌≡◌, refl, sym, ap, ap₂, ◌∙◌, subst}
use mathlib.Core.Logic.{◌⊎◌, inl, inr, ⊎_elim, ◌↔◌, ◌≢◌}
use mathlib.Core.Bool.{Bool, true, false, cond, ◌&&◌, ◌||◌, not}
use lib.Dec.{T, eqb, eqb→eq, eqb-suc-zero, eqb-zero-suc, eqb-suc-suc, eqb_refl}
use lib.Arith.{digits_mod}
use lib.Pow.{high, shr-shr}
use lib.Bits.{bit_and, bit_or, or_step, or_shr, and_step, and_shr, block_half, block_odd}
use Rattle.rules.specs.Sets.{has, any, all, set_of, within, least}

-- ---- tests

pub T-or : (a b : Bool) → T (a || b) → T a ⊎ T b
T-or true b h = inl tt
T-or false b h = inr h

pub or_l : (a b : Bool) → T a → T (a || b)
or_l true b h = tt
or_l false b h = absurd h

pub or_r : (a b : Bool) → T b → T (a || b)
or_r true b h = tt
or_r false b h = h

pub T_and : (a b : Bool) → T (a && b) → T a × T b
T_and true b h = (tt, h)
T_and false b h = absurd h

pub and_i : (a b : Bool) → T a → T b → T (a && b)
and_i true b h k = k
and_i false b h k = absurd h

-- `not a || b` is "if a then b"
pub T-if : (a b : Bool) → T (not a || b) ↔ (T a → T b)
T-if true b = (λ h _. h, λ f. f tt)
T-if false b = (λ h k. absurd k, λ f. tt)

pub T_true : {b : Bool} → b ≡ true → T b
T_true e = subst T (sym e) tt

pub true-T : (b : Bool) → T b → b ≡ true
true-T true h = refl
true-T false h = absurd h

pub same-T : (a b : Bool) → (T a → T b) → (T b → T a) → a ≡ b
same-T true true f g = refl
same-T true false f g = absurd (f tt)
same-T false true f g = absurd (g tt)
same-T false false f g = refl

pub eq-T : (m n : ℕ) → m ≡ n → T (eqb m n)
eq-T m n e = subst (λ (k : ℕ). T (eqb m k)) e (eqb_refl m)

pub dec-T : (b : Bool) → T b ⊎ (T b → ⊥)
dec-T true = inl tt
dec-T false = inr (λ h. h)

-- ---- some and every

pub not-lt : {m n : ℕ} → (m < n → ⊥) → n ≤ m
not-lt f = le_of_suc-le-suc (lt_of_not-le f)

pub lt-cases : {s n : ℕ} → s < suc n → (s ≡ n) ⊎ (s < n)
lt-cases {s} {n} h = ⊎_elim inl (λ k. inr (le_of_suc-le-suc k)) (⊎_elim (λ e. inl (suc_inj e)) inr (eq-or-lt_of_le h))

pub any-yes : (n : ℕ) (f : ℕ → Bool) (s : ℕ) → s < n → T (f s) → T (any n f)
unfolding any
any-yes zero f s h t = absurd (not-suc-le-zero h)
any-yes (suc n) f s h t =
    ⊎_elim (λ e. or_r (any n f) (f n) (subst (λ (k : ℕ). T (f k)) e t)) (λ l. or_l (any n f) (f n) (any-yes n f s l t)) (lt-cases h)

pub any_some : (n : ℕ) (f : ℕ → Bool) → T (any n f) → (s : ℕ) × (s < n) × T (f s)
unfolding any
any_some zero f h = absurd h
any_some (suc n) f h =
    ⊎_elim (λ k. let r = any_some n f k in (r.0, omega arith, r.2)) (λ k. (n, le_refl (suc n), k)) (T-or (any n f) (f n) h)

pub all-at : (n : ℕ) (f : ℕ → Bool) → T (all n f) → (s : ℕ) → s < n → T (f s)
unfolding all
all-at zero f h s l = absurd (not-suc-le-zero l)
all-at (suc n) f h s l =
    let both = T_and (all n f) (f n) h in
    ⊎_elim (λ e. subst (λ (k : ℕ). T (f k)) (sym e) both.1) (λ k. all-at n f both.0 s k) (lt-cases l)

pub all_yes : (n : ℕ) (f : ℕ → Bool) → ((s : ℕ) → s < n → T (f s)) → T (all n f)
unfolding all
all_yes zero f h = tt
all_yes (suc n) f h = and_i (all n f) (f n) (all_yes n f (λ s l. h s (omega arith))) (h n (le_refl (suc n)))

-- ---- members

pub has-zero : (m : ℕ) → has 0 m ≡ eqb (m % 2) 1
unfolding has
has-zero m = ap (λ (x : ℕ). eqb (x % 2) 1) (div-one m)

-- the rest of a set's digits
pub has-suc : (s m : ℕ) → has (suc s) m ≡ has s (m / 2)
unfolding has
has-suc s m = ap (λ (x : ℕ). eqb (x % 2) 1) (ap (λ (k : ℕ). m / 2 ^ k) (sym (one-add s)) ∙ sym (shr-shr m 1 s))

pub has-nothing : (s : ℕ) → has s 0 ≡ false
has-nothing zero = has-zero 0
has-nothing (suc s) = has-suc s 0 ∙ has-nothing s

-- below digit n, what stands from n on does not count
pub has-low : (s n b r : ℕ) → s < n → has s (b * 2 ^ n + r) ≡ has s r
has-low s zero b r h = absurd (not-suc-le-zero h)
has-low zero (suc n) b r h = rw (has-zero, has-zero r, block_odd)
has-low (suc s) (suc n) b r h = rw (has-suc, has-suc s r, block_half) (has-low s n b (r / 2) (le_of_suc-le-suc h))

-- from digit n on, what stands below n does not count
pub has-high : (s n b r : ℕ) → r < 2 ^ n → has (s + n) (b * 2 ^ n + r) ≡ has s b
unfolding has
has-high s n b r h =
    ap (λ (x : ℕ). eqb (x % 2) 1) (ap (λ (k : ℕ). (b * 2 ^ n + r) / 2 ^ k) (add_comm s n) ∙ sym (shr-shr (b * 2 ^ n + r) n s) ∙ ap (λ (x : ℕ). x / 2 ^ s) (high b n h))

-- a number below 2 ^ n has no member from n on
pub has-small : (s n m : ℕ) → m < 2 ^ n → n ≤ s → has s m ≡ false
has-small s n m h l =
    let e : s ≡ s - n + n = omega arith in
    let z : m ≡ 0 * 2 ^ n + m = omega arith in
    ap₂ has e z ∙ has-high (s - n) n 0 m h ∙ has-nothing (s - n)

digit-eq : (x y : ℕ) → x < 2 → y < 2 → eqb x 1 ≡ eqb y 1 → x ≡ y
digit-eq zero zero h l e = refl
digit-eq zero (suc zero) h l e = absurd (subst T (sym e) tt)
digit-eq zero (suc (suc y)) h l e = omega arith
digit-eq (suc zero) zero h l e = absurd (subst T e tt)
digit-eq (suc zero) (suc zero) h l e = refl
digit-eq (suc zero) (suc (suc y)) h l e = omega arith
digit-eq (suc (suc x)) y h l e = omega arith

-- two sets with the same members are one number
same-under : (k m n : ℕ) → m + n ≤ k → ((s : ℕ) → has s m ≡ has s n) → m ≡ n
same-under zero m n l e = omega arith
same-under (suc k) m n l e =
    let high : m / 2 ≡ n / 2 = same-under k (m / 2) (n / 2) (omega arith) (λ s. sym (has-suc s m) ∙ e (suc s) ∙ has-suc s n) in
    let low : m % 2 ≡ n % 2 = digit-eq (m % 2) (n % 2) (omega arith) (omega arith) (sym (has-zero m) ∙ e 0 ∙ has-zero n) in
    omega arith

pub same : (m n : ℕ) → ((s : ℕ) → has s m ≡ has s n) → m ≡ n
same m n e = same-under (m + n) m n (le_refl (m + n)) e

-- a set that is not 0 has a member
member-under : (k m : ℕ) → m ≤ k → zero < m → (s : ℕ) × T (has s m)
member-under zero m l h = absurd (omega arith)
member-under (suc k) m l h =
    ⊎_elim (λ o. (0, T_true (has-zero m ∙ true-T (eqb (m % 2) 1) o)))
    (λ z. let n : m % 2 ≢ 1 = λ e. z (eq-T (m % 2) 1 e) in
    let r = member-under k (m / 2) (omega arith) (omega arith) in
    (suc r.0, subst T (sym (has-suc r.0 m)) r.1))
    (dec-T (eqb (m % 2) 1))

pub member : (m : ℕ) → zero < m → (s : ℕ) × T (has s m)
member m h = member-under m m (le_refl m) h

-- ---- the set of a test

weight : (b : Bool) (r n : ℕ) → r + cond b (2 ^ n) 0 ≡ cond b 1 0 * 2 ^ n + r
weight true r n = omega arith
weight false r n = omega arith

weight-lt : (b : Bool) (r n : ℕ) → r < 2 ^ n → r + cond b (2 ^ n) 0 < 2 ^ suc n
weight-lt true r n h = omega arith
weight-lt false r n h = omega arith

weight-has : (b : Bool) → has 0 (cond b 1 0) ≡ b
unfolding has
weight-has true = refl
weight-has false = refl

pub set_of-lt : (n : ℕ) (f : ℕ → Bool) → set_of n f < 2 ^ n
unfolding set_of
set_of-lt zero f = zero-lt-suc 0
set_of-lt (suc n) f = weight-lt (f n) (set_of n f) n (set_of-lt n f)

pub has-set_of : (n : ℕ) (f : ℕ → Bool) (s : ℕ) → s < n → has s (set_of n f) ≡ f s
unfolding set_of
has-set_of zero f s h = absurd (not-suc-le-zero h)
has-set_of (suc n) f s h =
    ap (has s) (weight (f n) (set_of n f) n)
    ∙ ⊎_elim
    (λ e. let z : s ≡ 0 + n = omega arith in
    ap (λ (k : ℕ). has k (cond (f n) 1 0 * 2 ^ n + set_of n f)) z ∙ has-high 0 n (cond (f n) 1 0) (set_of n f) (set_of-lt n f)
    ∙ weight-has (f n) ∙ ap f (sym e))
    (λ l. has-low s n (cond (f n) 1 0) (set_of n f) l ∙ has-set_of n f s l)
    (lt-cases h)

pub has-beyond : (n : ℕ) (f : ℕ → Bool) (s : ℕ) → n ≤ s → has s (set_of n f) ≡ false
has-beyond n f s l = has-small s n (set_of n f) (set_of-lt n f) l

pub in-set_of : (n : ℕ) (f : ℕ → Bool) (s : ℕ) → T (has s (set_of n f)) ↔ ((s < n) × T (f s))
in-set_of n f s = (
  λ h. let l : s < n = lt_of_not-le (λ k. subst T (has-beyond n f s k) h) in (l, subst T (has-set_of n f s l) h),
  λ h. subst T (sym (has-set_of n f s h.0)) h.1,
)

-- ---- one member, and parts

pub has-single : (a s : ℕ) → has s (2 ^ a) ≡ eqb s a
has-single zero zero = has-zero 1
has-single zero (suc s) = has-suc s 1 ∙ has-nothing s ∙ sym (eqb-suc-zero s)
has-single (suc a) zero =
    let even : 2 ^ suc a % 2 ≡ 0 = omega arith in has-zero (2 ^ suc a) ∙ ap (λ (x : ℕ). eqb x 1) even ∙ sym (eqb-zero-suc a)
has-single (suc a) (suc s) =
    let half : 2 ^ suc a / 2 ≡ 2 ^ a = omega arith in has-suc s (2 ^ suc a) ∙ ap (has s) half ∙ has-single a s ∙ sym (eqb-suc-suc s a)

pub single-one : (a s : ℕ) → T (has s (2 ^ a)) → s ≡ a
single-one a s h = eqb→eq s a (subst T (has-single a s) h)

digit_and : (x y : ℕ) → x < 2 → y < 2 → eqb (min x y) 1 ≡ (eqb x 1 && eqb y 1)
digit_and zero y h l = ap (λ (m : ℕ). eqb m 1) (zero-min y)
digit_and (suc zero) zero h l = refl
digit_and (suc zero) (suc zero) h l = refl
digit_and (suc zero) (suc (suc y)) h l = absurd (omega arith)
digit_and (suc (suc x)) y h l = absurd (omega arith)

pub has-and : (s v w : ℕ) → has s (bit_and v w) ≡ (has s v && has s w)
has-and zero v w =
    let low : bit_and v w % 2 ≡ min (v % 2) (w % 2) = ap (λ (x : ℕ). x % 2) (and_step v w) ∙ digits_mod (bit_and (v / 2) (w / 2)) (omega arith) in
    has-zero (bit_and v w) ∙ ap (λ (x : ℕ). eqb x 1) low ∙ digit_and (v % 2) (w % 2) (omega arith) (omega arith)
    ∙ ap₂ ◌&&◌ (sym (has-zero v)) (sym (has-zero w))
has-and (suc s) v w =
    has-suc s (bit_and v w) ∙ ap (has s) (and_shr v w 1) ∙ has-and s (v / 2) (w / 2) ∙ ap₂ ◌&&◌ (sym (has-suc s v)) (sym (has-suc s w))

digit_or : (x y : ℕ) → x < 2 → y < 2 → eqb (max x y) 1 ≡ (eqb x 1 || eqb y 1)
digit_or zero y h l = ap (λ (m : ℕ). eqb m 1) (zero-max y)
digit_or (suc zero) zero h l = refl
digit_or (suc zero) (suc zero) h l = refl
digit_or (suc zero) (suc (suc y)) h l = absurd (omega arith)
digit_or (suc (suc x)) y h l = absurd (omega arith)

pub has-or : (s v w : ℕ) → has s (bit_or v w) ≡ (has s v || has s w)
has-or zero v w =
    let low : bit_or v w % 2 ≡ max (v % 2) (w % 2) = ap (λ (x : ℕ). x % 2) (or_step v w) ∙ digits_mod (bit_or (v / 2) (w / 2)) (omega arith) in
    has-zero (bit_or v w) ∙ ap (λ (x : ℕ). eqb x 1) low ∙ digit_or (v % 2) (w % 2) (omega arith) (omega arith)
    ∙ ap₂ ◌||◌ (sym (has-zero v)) (sym (has-zero w))
has-or (suc s) v w =
    has-suc s (bit_or v w) ∙ ap (has s) (or_shr v w 1) ∙ has-or s (v / 2) (w / 2) ∙ ap₂ ◌||◌ (sym (has-suc s v)) (sym (has-suc s w))

pub in_within : (v w : ℕ) → T (within v w) ↔ ((s : ℕ) → T (has s v) → T (has s w))
unfolding within
in_within v w = (
  λ h s k. (T_and (has s v) (has s w) (subst T (has-and s v w) (subst (λ (m : ℕ). T (has s m)) (sym (eqb→eq (bit_and v w) v h)) k))).1,
  λ f. eq-T (bit_and v w) v (same (bit_and v w) v (λ s. has-and s v w ∙ same-T (has s v && has s w) (has s v) (λ h. (T_and (has s v) (has s w) h).0) (λ h. and_i (has s v) (has s w) h (f s h)))),
)

-- ---- the least number that chooses

pub record Least (n : ℕ) (f : ℕ → Bool) (k : ℕ) : Type 0 where
  pub bound : k ≤ n
  pub before : (j : ℕ) → j < k → T (f j) → ⊥
  pub hit : k < n → T (f k)

pub least-is : (n : ℕ) (f : ℕ → Bool) → Least n f (least n f)
unfolding least
least-is zero f = record { bound = le_refl 0; before = λ j l. absurd (not-suc-le-zero l); hit = λ l. absurd (not-suc-le-zero l) }
least-is (suc n) f = at (f 0) refl (least-is n (λ k. f (suc k)))
  where
    at : (b : Bool) → f 0 ≡ b → Least n (λ k. f (suc k)) (least n (λ k. f (suc k))) → Least (suc n) f (cond b 0 (suc (least n (λ k. f (suc k)))))
    at true e h = record { bound = zero-le; before = λ j l. absurd (not-suc-le-zero l); hit = λ l. T_true e }
    at false e h = record { bound = suc-le-suc h.bound; before = λ j. elim j as (λ i. i < suc (least n (λ k. f (suc k))) → T (f i) → ⊥) [ zero ↦ λ l t. subst T e t | suc i ↦ λ l t. h.before i (le_of_suc-le-suc l) t ]; hit = λ l. h.hit (le_of_suc-le-suc l) }

pub least-one : {n : ℕ} {f : ℕ → Bool} {j k : ℕ} → Least n f j → Least n f k → j ≡ k
least-one {n} {f} {j} {k} p q =
    le_antisymm (not-lt (λ l. p.before k l (q.hit (lt_of_lt_of_le l p.bound)))) (not-lt (λ l. q.before j l (p.hit (lt_of_lt_of_le l q.bound))))

pub least_under : {n : ℕ} {f : ℕ → Bool} {j k : ℕ} → Least n f k → T (f j) → k ≤ j
least_under {j = j} h t = not-lt (λ l. h.before j l t)
