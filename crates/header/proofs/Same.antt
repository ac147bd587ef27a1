-- The search and the test read masks only at the switches there are: masks kept in a list of that length serve as well.
-- Assumes nothing.
use Prim.Native.Nat.{ℕ, zero, suc, ◌<◌}
use native.Mathlib.Nat.{le_refl}
use native.Mathlib.Omega.{arith}
use mathlib.Core.Path.{◌≡◌, refl, ap, ap₂, fun_ext}
use mathlib.Core.Bool.{Bool, cond, ◌&&◌, ◌||◌, not}
use mathlib.Core.List.{List, [], ◌∷◌}
use Rattle.std.specs.Prelude.{Option, None}
use Rattle.rules.specs.Sets.{has, all, set_of, sum}
use Rattle.rules.specs.Net.{Far}
use Rattle.rules.specs.Tries.{reach, common, choice, chooses, tries}
use Rattle.rules.specs.Run.{best, widest}

all_same : (n : ℕ) (f g : ℕ → Bool) → ((s : ℕ) → s < n → f s ≡ g s) → all n f ≡ all n g
unfolding all
all_same zero f g h = refl
all_same (suc n) f g h = ap₂ ◌&&◌ (all_same n f g (λ s l. h s (omega arith))) (h n (le_refl (suc n)))

module _ (far : ℕ → ℕ → Far) (size : ℕ) (mask mask' : ℕ → ℕ) (same : (s : ℕ) → s < size → mask s ≡ mask' s) where
  pub common-same : (m : ℕ) → common size mask m ≡ common size mask' m
  unfolding common
  common-same m = ap (set_of 8) (fun_ext (λ p. all_same size (λ s. not (has s m) || has p (mask s)) (λ s. not (has s m) || has p (mask' s))
      (λ s l. ap (λ (w : ℕ). not (has s m) || has p w) (same s l))))

  pub chooses-same : (ws : List ℕ) (m : ℕ) → chooses far size mask m ws ≡ chooses far size mask' m ws
  unfolding chooses
  chooses-same [] m = refl
  chooses-same (w ∷ ws) m = ap₂ ◌&&◌ (ap (choice w) (common-same m)) (chooses-same ws (reach far size m w))

  pub tries-same : (n m : ℕ) → tries far size mask n m ≡ tries far size mask' n m
  unfolding tries
  tries-same zero m = refl
  tries-same (suc n) m = ap (sum 256) (fun_ext (λ w. ap₂ (λ (c r : ℕ). cond (choice w c) (suc r) 0) (common-same m) (tries-same n (reach far size m w))))

  pub best-same : (n m : ℕ) → best far size mask n m ≡ best far size mask' n m
  unfolding best
  best-same zero m = refl
  best-same (suc n) m = ap (widest 256) (fun_ext (λ w. ap₂ (λ (c : ℕ) (r : Option (List ℕ)). cond (choice w c) r None) (common-same m) (best-same n (reach far size m w))))
