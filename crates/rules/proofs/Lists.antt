-- Lists that are tabulated, and lists written over the front of another. Assumes nothing. Not here: what the kit's Seq and ListN have.
use Prim.Native.Nat.{ℕ, zero, suc, ◌+◌, ◌-◌, ◌≤◌, ◌<◌}
use native.Mathlib.Nat.{zero-add, le_of_suc-le-suc, not-suc-le-zero}
use native.Mathlib.Decide.{dec_lt}
use mathlib.Core.Path.{◌≡◌, refl, sym, ap, ◌∙◌, subst}
use native.Mathlib.Omega.{arith}
use native.Mathlib.Numerals.{add-one}
use mathlib.Core.List.{List, ◌∷◌, ◌++◌}
use lib.ListN.{length, get_or, take, drop, set, length-append, length-drop}
use lib.Seq.{paste-suc, drop_at, ext_get_or, get_or-drop}
use Rattle.rules.specs.Sets.{tabulate}

pub length-tabulate : (n : ℕ) (f : ℕ → ℕ) → length (tabulate n f) ≡ n
unfolding tabulate
length-tabulate zero f = refl
length-tabulate (suc n) f = ap suc (length-tabulate n (λ k. f (suc k)))

pub get_d_tabulate : (n : ℕ) (f : ℕ → ℕ) (i d : ℕ) → i < n → get_or (tabulate n f) i d ≡ f i
unfolding tabulate
get_d_tabulate zero f i d l = absurd (not-suc-le-zero l)
get_d_tabulate (suc n) f zero d l = refl
get_d_tabulate (suc n) f (suc i) d l = get_d_tabulate n (λ k. f (suc k)) i d (le_of_suc-le-suc l)

pub take-tabulate : (m n : ℕ) (f : ℕ → ℕ) → m ≤ n → take m (tabulate n f) ≡ tabulate m f
unfolding tabulate
take-tabulate zero n f l = refl
take-tabulate (suc m) zero f l = absurd (not-suc-le-zero l)
take-tabulate (suc m) (suc n) f l = ap (λ (r : List ℕ). f 0 ∷ r) (take-tabulate m n (λ k. f (suc k)) (le_of_suc-le-suc l))

-- p written over the first n of out leaves the length and what stands after them
pub front_kept : (n : ℕ) (p out : List ℕ) → length p ≡ n → n ≤ length out → (length (p ++ drop n out) ≡ length out) × (drop n (p ++ drop n out) ≡ drop n out)
front_kept n p out e l = (simp (length-append, length-drop) (omega arith), drop_at p (drop n out) n e)

-- one more of e written over the front of o
pub front-more : (e o : List ℕ) (i : ℕ) → i < length o → i < length e → set (take i e ++ drop i o) i (get_or e i 0) ≡ take (i + 1) e ++ drop (i + 1) o
front-more e o i l m = rw add-one (simp zero-add at (paste-suc o 0 e i 0 (omega arith) m))

-- two lists that agree on the first n and from there on are one
pub front-one : (n : ℕ) (t u : List ℕ) → length t ≡ length u → drop n t ≡ drop n u → ((i : ℕ) → i < n → get_or t i 0 ≡ get_or u i 0) → t ≡ u
front-one n t u e f h = ext_get_or 0 t u e (λ i _. at i (dec_lt i n))
  where
    at : (i : ℕ) → Dec (i < n) → get_or t i 0 ≡ get_or u i 0
    at i (yes l) = h i l
    at i (no l) =
        let m : n + (i - n) ≡ i = omega arith in
        subst (λ (j : ℕ). get_or t j 0 ≡ get_or u j 0) m (sym (get_or-drop n t (i - n) 0) ∙ ap (λ (x : List ℕ). get_or x (i - n) 0) f ∙ get_or-drop n u (i - n) 0)
