-- Sets of small numbers, each written as one number, and counts over the numbers below a bound. Assumes nothing.
--
--   has s m      s is in the set m: bit s of m is 1          within v w   every member of v is one of w
--   any n f      some number below n passes f                all n f      every number below n passes f
--   set_of n f    the set of the numbers below n that pass    least n f    the least number below n that passes, or n
--   sum n f      the sum of f over the numbers below n       count n f    how many numbers below n pass
--   lists b k f  how many lists of k numbers, each below b, pass    tabulate n f   the list of f 0 to f (n - 1)
use Rattle.std.specs.Prelude.{ℕ, zero, suc, ◌+◌, ◌/◌, ◌%◌, ◌^◌, Bool, true, false, cond, ◌&&◌, ◌||◌, List, [], ◌∷◌, eqb}
use Rattle.std.specs.Int.Bits.{bit_and}

unfoldable pub has : ℕ → ℕ → Bool
has s m = eqb (m / 2 ^ s % 2) 1

unfoldable pub any : ℕ → (ℕ → Bool) → Bool
any zero f = false
any (suc n) f = any n f || f n

unfoldable pub all : ℕ → (ℕ → Bool) → Bool
all zero f = true
all (suc n) f = all n f && f n

unfoldable pub set_of : ℕ → (ℕ → Bool) → ℕ
set_of zero f = 0
set_of (suc n) f = set_of n f + cond (f n) (2 ^ n) 0

unfoldable pub within : ℕ → ℕ → Bool
within v w = eqb (bit_and v w) v

unfoldable pub sum : ℕ → (ℕ → ℕ) → ℕ
sum zero f = 0
sum (suc n) f = sum n f + f n

unfoldable pub count : ℕ → (ℕ → Bool) → ℕ
unfolding sum
count n f = sum n (λ s. cond (f s) 1 0)

unfoldable pub least : ℕ → (ℕ → Bool) → ℕ
least zero f = zero
least (suc n) f = let r = suc (least n (λ k. f (suc k))) in cond (f 0) 0 r

unfoldable pub lists : ℕ → ℕ → (List ℕ → Bool) → ℕ
lists b zero f = cond (f []) 1 0
lists b (suc k) f = sum b (λ x. lists b k (λ xs. f (x ∷ xs)))

unfoldable pub tabulate : ℕ → (ℕ → ℕ) → List ℕ
tabulate zero f = []
tabulate (suc n) f = f 0 ∷ tabulate n (λ k. f (suc k))
