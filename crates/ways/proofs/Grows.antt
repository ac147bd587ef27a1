-- What one more switch at the end of a queue keeps: each law of the old queue holds of the old places, and the last is one deeper than the
-- place that has been gone on from. Over any numbers, without lists. Assumes nothing.
use Prim.Native.Nat.{ℕ, zero, suc, ◌+◌, ◌≤◌, ◌<◌}
use native.Mathlib.Nat.{le_refl, le_of_eq, not-suc-le-zero}
use native.Mathlib.Decide.{ℕ_discrete}
use native.Mathlib.Omega.{arith}
use mathlib.Core.Path.{◌≡◌, refl, sym, ap, ap₂, ◌∙◌}
use mathlib.Core.Logic.{◌⊎◌, inl, inr, ⊎_elim, ◌≢◌}
use mathlib.Core.Bool.{Bool, true, false, cond}
use lib.Dec.{ltb, lt→ltb}
use Rattle.rules.specs.Sets.{count, sum}
use Rattle.rules.proofs.SetLaws.{lt-cases, true-T}

pub same_or_not : (w v : ℕ) → (w ≡ v) ⊎ (w ≢ v)
same_or_not w v = at (ℕ_discrete w v)
  where
    at : Dec (w ≡ v) → (w ≡ v) ⊎ (w ≢ v)
    at (yes e) = inl e
    at (no n) = inr n

-- ---- a test that one number more passes counts one more

module _ (f g : ℕ → Bool) (v : ℕ) (same : (s : ℕ) → s ≢ v → g s ≡ f s) where
  count_same : (n : ℕ) → n ≤ v → count n g ≡ count n f
  unfolding count sum
  count_same zero l = refl
  count_same (suc n) l = ap₂ ◌+◌ (count_same n (omega arith)) (ap (λ (b : Bool). cond b 1 0) (same n (λ e. omega arith)))

  pub count-one : (n : ℕ) → v < n → f v ≡ false → g v ≡ true → count n g ≡ suc (count n f)
  unfolding count sum
  count-one zero l h k = absurd (not-suc-le-zero l)
  count-one (suc n) l h k =
      ⊎_elim
      (λ e. let c = count_same n (le_of_eq (sym e)) in
      let i : ◌≡◌ {A = ℕ} (cond (f n) 1 0) 0 = ap (λ (b : Bool). cond b 1 0) (ap f (sym e) ∙ h) in
      let j : ◌≡◌ {A = ℕ} (cond (g n) 1 0) 1 = ap (λ (b : Bool). cond b 1 0) (ap g (sym e) ∙ k) in
      omega arith)
      (λ m. let c = count-one n m h k in
      let i : ◌≡◌ {A = ℕ} (cond (g n) 1 0) (cond (f n) 1 0) = ap (λ (b : Bool). cond b 1 0) (same n (λ e. omega arith)) in
      omega arith)
      (lt-cases l)

pub count_none : (f : ℕ → Bool) → ((s : ℕ) → f s ≡ false) → (n : ℕ) → count n f ≡ 0
unfolding count sum
count_none f h zero = refl
count_none f h (suc n) = ap₂ ◌+◌ (count_none f h n) (ap (λ (b : Bool). cond b 1 0) (h n))

-- ---- the depth d of each switch, and d' where v, unseen before, has depth k

module _ (d d' : ℕ → ℕ) (v k : ℕ) (fresh : d v ≡ 0) (new : d' v ≡ suc k) (other : (w : ℕ) → w ≢ v → d' w ≡ d w) where
  pub seen_same : (w : ℕ) → zero < d w → d' w ≡ d w
  seen_same w h = other w (λ e. let x = ap d e in omega arith)

  pub seen-cases : (w : ℕ) → zero < d' w → (w ≡ v) ⊎ (zero < d w)
  seen-cases w h = ⊎_elim inl (λ n. let x = other w n in inr (omega arith)) (same_or_not w v)

  pub seen-count : (size : ℕ) → v < size → count size (λ w. ltb 0 (d' w)) ≡ suc (count size (λ w. ltb 0 (d w)))
  seen-count size l =
      count-one (λ w. ltb 0 (d w)) (λ w. ltb 0 (d' w)) v (λ w n. ap (ltb 0) (other w n)) size l (ap (ltb 0) fresh)
      (true-T (ltb 0 (d' v)) (lt→ltb 0 (d' v) (omega arith)))

-- ---- the depths e along the queue, and e' with one more at the end, one deeper than place next

module _ (e e' : ℕ → ℕ) (reached next : ℕ) (there : next < reached) (old : (i : ℕ) → i < reached → e' i ≡ e i) (last : e' reached ≡ suc (e next)) where
  pub listed-add : ((i : ℕ) → i < reached → zero < e i) → (i : ℕ) → i < suc reached → zero < e' i
  listed-add h i l =
      ⊎_elim (λ c. let x = ap e' c in omega arith) (λ k. let x = old i k in let y = h i k in omega arith) (lt-cases l)

  pub low-add : ((i : ℕ) → i < reached → e i ≤ suc i) → (i : ℕ) → i < suc reached → e' i ≤ suc i
  low-add h i l =
      ⊎_elim (λ c. let x = ap e' c in let y = h next there in omega arith) (λ k. let x = old i k in let y = h i k in omega arith) (lt-cases l)

  module _ (window : (i j : ℕ) → next ≤ i → i < reached → j < reached → e j ≤ suc (e i)) (rising : (i j : ℕ) → i ≤ j → j < reached → e i ≤ e j) where
    -- nothing is deeper than the last
    under : (i : ℕ) → i < suc reached → e' i ≤ e' reached
    under i l =
        ⊎_elim (λ c. le_of_eq (ap e' c)) (λ k. let x = old i k in let y = window next i (le_refl next) there k in omega arith) (lt-cases l)

    pub rising-add : (i j : ℕ) → i ≤ j → j < suc reached → e' i ≤ e' j
    rising-add i j l m =
        ⊎_elim (λ c. let x = ap e' c in let y = under i (omega arith) in omega arith)
        (λ k. let x = old i (omega arith) in let y = old j k in let z = rising i j l k in omega arith) (lt-cases m)

    -- and at most one deeper than whatever is still to be gone on from
    pub window-add : (i j : ℕ) → next ≤ i → i < suc reached → j < suc reached → e' j ≤ suc (e' i)
    window-add i j l m n =
        let u = under j n in
        ⊎_elim (λ c. let x = ap e' c in omega arith) (λ k. let x = old i k in let y = rising next i l k in omega arith) (lt-cases m)
