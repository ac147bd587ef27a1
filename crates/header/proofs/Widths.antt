-- What the search finds: n words, none empty, and so at least 1 and at most 8 ^ n lists; and the wider of two as the code makes it, which is
-- `wider` of the definitions. Assumes nothing.
use Prim.Native.Nat.{ℕ, zero, suc, ◌*◌, ◌-◌, ◌^◌, ◌≤◌, ◌<◌, zero-le}
use native.Mathlib.Nat.{le_refl, le_of_suc-le-suc, mul_comm, zero-mul, mul-le-mul, mul-pos, pow-succ', pow-le-pow_right}
use native.Mathlib.Omega.{arith}
use mathlib.Core.Path.{◌≡◌, refl, ap, ap₂, ◌∙◌}
use mathlib.Core.Bool.{Bool, true, false, cond}
use mathlib.Core.List.{List, ◌∷◌, ◌++◌}
use Rattle.std.specs.Prelude.{Option, None, Some}
use borrow.Author.Tests.{leb-true, leb-false, lt-ltb, le-ltb, le-leb, lt-leb}
use lib.Dec.{ltb, leb, lit<}
use lib.ListN.{length, set, replicate}
use lib.Count.{ones, ones-le}
use Rattle.rules.specs.Net.{Far}
use Rattle.rules.specs.Header.{permits}
use Rattle.rules.specs.Tries.{choice, common, reach}
use Rattle.rules.specs.Run.{wider, put, widest, best}
use Rattle.rules.proofs.SetLaws.{T_true}
use Rattle.rules.proofs.Widest.{ones_pos}
use Rattle.found.specs.declared.Found.{Found}
use Rattle.found.specs.Found.{wider_found}
use Rattle.found.proofs.Laws.{wider_whole, wider-whole}
use Rattle.header.specs.Search.{placed, words_in, count_in, found}
use Rattle.header.proofs.LastStage.{choice-some}

-- ---- what is found has n words, and none is empty

pub record Sized (n : ℕ) (ws : List ℕ) : Type 0 where
  pub long : length ws ≡ n
  pub wide : 1 ≤ permits ws
  pub few : permits ws ≤ 8 ^ n

unfoldable pub Fine : ℕ → Option (List ℕ) → Type 0
Fine n None = Unit {0}
Fine n (Some ws) = Sized n ws

fine-wider : (n : ℕ) (r q : Option (List ℕ)) → Fine n r → Fine n q → Fine n (wider r q)
unfolding Fine wider
fine-wider n None q h k = k
fine-wider n (Some r) None h k = h
fine-wider n (Some r) (Some q) h k = at (ltb (permits r) (permits q))
  where
    at : (b : Bool) → Fine n (cond b (Some q) (Some r))
    at true = k
    at false = h

fine-put : (n w : ℕ) (r : Option (List ℕ)) → zero < w → w < 256 → Fine n r → Fine (suc n) (put w r)
unfolding Fine put permits
fine-put n w None z l h = tt
fine-put n w (Some ws) z l h = record {
  long = ap suc h.long;
  wide = mul-pos (ones_pos w z) h.wide;
  few = rw pow-succ' (mul-le-mul (ones-le 8 w l) h.few);
}

fine-widest : (n c : ℕ) (f : ℕ → Option (List ℕ)) → ((w : ℕ) → Fine n (f w)) → (k : ℕ) → k ≤ 256 → Fine (suc n) (widest k (λ w. cond (choice w c) (f w) None))
unfolding Fine widest put
fine-widest n c f h zero l = tt
fine-widest n c f h (suc k) l = fine-wider (suc n) (widest k tail) (put k (tail k)) (fine-widest n c f h k (omega arith)) (at (choice k c) refl)
  where
    tail : ℕ → Option (List ℕ)
    tail w = cond (choice w c) (f w) None

    at : (b : Bool) → choice k c ≡ b → Fine (suc n) (put k (cond b (f k) None))
    at true e = fine-put n k (f k) (choice-some k c (T_true e)) l (h k)
    at false e = tt

module _ (far : ℕ → ℕ → Far) (size : ℕ) (mask : ℕ → ℕ) where
  pub best-fine : (n m : ℕ) → Fine n (best far size mask n m)
  unfolding best Fine permits
  best-fine zero m = record { long = refl; wide = le_refl 1; few = le_refl 1 }
  best-fine (suc n) m = fine-widest n (common size mask m) (λ w. best far size mask n (reach far size m w)) (λ w. best-fine n (reach far size m w)) 256 (le_refl 256)

-- ---- one word more in front

set_last : (j w : ℕ) (ws : List ℕ) → set (replicate (suc j) 0 ++ ws) j w ≡ replicate j 0 ++ (w ∷ ws)
set_last zero w ws = refl
set_last (suc j) w ws = ap (λ (x : List ℕ). 0 ∷ x) (set_last j w ws)

placed-put : (n w : ℕ) (ws : List ℕ) → length ws ≡ n → n < 8 → set (placed ws) (8 - suc n) w ≡ placed (w ∷ ws)
placed-put n w ws e l =
    let j : 8 - length ws ≡ suc (8 - suc n) = omega arith in
    let i : 8 - suc (length ws) ≡ 8 - suc n = omega arith in
    rw (j, i) (set_last (8 - suc n) w ws)

pub wider-none : (h : Option (List ℕ)) → wider h None ≡ h
unfolding wider
wider-none None = refl
wider-none (Some h) = refl

abbrev kept : List ℕ → ℕ → Found
kept ws k = record { words = ws; count = k; tries = 0 }

-- the header of w before ws, as the code makes it
put-found : (n w : ℕ) (ws : List ℕ) → n < 8 → Sized n ws → kept (set (placed ws) (8 - suc n) w) (permits ws * ones w) ≡ found (Some (w ∷ ws)) 0
unfolding found words_in count_in permits
put-found n w ws l s = ap₂ kept (placed-put n w ws s.long l) (mul_comm (permits ws) (ones w))

-- the wider of two, of those kept and of those found
wider-plain : (n k w : ℕ) (h r : Option (List ℕ)) → n < 8 → zero < w → Fine n r → wider_whole (found h 0) (found r k) w (suc n) ≡ found (wider h (put w r)) 0
unfolding found words_in count_in Fine put wider permits
wider-plain n k w h None l z s = let e = le-leb 0 (count_in h) zero-le in rw (zero-mul, e, wider-none)
wider-plain n k w None (Some ws) l z s =
    let e = lt-leb (permits ws * ones w) 0 (mul-pos s.wide (ones_pos w z)) in rw e (put-found n w ws l s)
wider-plain n k w (Some hs) (Some ws) l z s = at (leb (permits ws * ones w) (permits hs)) refl
  where
    at : (b : Bool) → leb (permits ws * ones w) (permits hs) ≡ b
        → cond b (found (Some hs) 0) (kept (set (placed ws) (8 - suc n) w) (permits ws * ones w)) ≡ found (wider (Some hs) (Some (w ∷ ws))) 0
    at true e = let q = le-ltb (permits hs) (ones w * permits ws) (omega (arith, leb-true (permits ws * ones w) (permits hs) e)) in rw q
    at false e =
        let q = lt-ltb (permits hs) (ones w * permits ws) (omega (arith, leb-false (permits ws * ones w) (permits hs) e)) in rw q (put-found n w ws l s)

-- a count of at most 8 ^ 7 is not cut
fine-small : (n k : ℕ) (r : Option (List ℕ)) → n < 8 → Fine n r → (found r k).count < 2 ^ 29
unfolding Fine found count_in
fine-small n k None l h = omega arith
fine-small n k (Some ws) l h = let m : 8 ^ n ≤ 8 ^ 7 = pow-le-pow_right {n = 8} (lit< tt) {j = 7} (le_of_suc-le-suc l) in omega (arith, h.few)

pub wider-found : (n k w : ℕ) (h r : Option (List ℕ)) → n < 8 → zero < w → Fine n r → wider_found (found h 0) (found r k) w (suc n) ≡ found (wider h (put w r)) 0
wider-found n k w h r l z s = wider-whole (found h 0) (found r k) w (suc n) (fine-small n k r l s) ∙ wider-plain n k w h r l z s
