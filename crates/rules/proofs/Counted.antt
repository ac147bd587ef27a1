-- What the numbers count: 01's tries are the lists of words that choose, since the lists that begin with one word are counted together;
-- and a header's product of ones is the number of lists with one port of each word. Assumes nothing.
use Prim.Native.Nat.{ℕ, zero, suc, ◌+◌, ◌*◌, ◌<◌}
use native.Mathlib.Nat.{lt_of_not-le, le_of_suc-le-suc, not-suc-le-zero}
use native.Mathlib.Omega.{arith}
use native.Mathlib.Numerals.{one-add}
use mathlib.Core.Path.{◌≡◌, refl, sym, ap, ap₂, ◌∙◌, subst, fun_ext}
use mathlib.Core.Logic.{◌↔◌}
use mathlib.Core.Bool.{Bool, true, false, cond, ◌&&◌}
use mathlib.Core.List.{List, [], ◌∷◌}
use lib.Dec.{T, ltb, ltb→lt, eqb→eq}
use lib.Bits.{bit_and, and_le_r}
use lib.ListN.{length, get_or}
use Rattle.rules.specs.Sets.{has, within, sum, count, lists}
use Rattle.rules.specs.Net.{Far}
use Rattle.rules.specs.Tries.{choice, common, reach, tries, chooses, tried}
use Rattle.rules.specs.Header.{Picks, Words, permits}
use Rattle.rules.proofs.SetLaws.{T_and, and_i, has-small}
use Rattle.rules.proofs.Counts.{ones-count}
use Rattle.rules.proofs.Search.{common-byte}

-- ---- sums

pub sum_same : {f g : ℕ → ℕ} (n : ℕ) → ((x : ℕ) → f x ≡ g x) → sum n f ≡ sum n g
sum_same n e = ap (sum n) (fun_ext e)

pub sum-empty : (f : ℕ → ℕ) → sum 0 f ≡ 0
unfolding sum
sum-empty f = refl

pub sum-zero : (n : ℕ) → sum n (λ x. 0) ≡ 0
unfolding sum
sum-zero zero = refl
sum-zero (suc n) = let h = sum-zero n in omega arith

pub sum-add : (f g : ℕ → ℕ) (n : ℕ) → sum n (λ x. f x + g x) ≡ sum n f + sum n g
unfolding sum
sum-add f g zero = refl
sum-add f g (suc n) = let h = sum-add f g n in omega arith

pub sum_first : (f : ℕ → ℕ) (n : ℕ) → sum (suc n) f ≡ f 0 + sum n (λ x. f (suc x))
unfolding sum
sum_first f zero = omega arith
sum_first f (suc n) = let h = sum_first f n in omega arith

pub sum-swap : (f : ℕ → ℕ → ℕ) (b n : ℕ) → sum n (λ i. sum b (f i)) ≡ sum b (λ x. sum n (λ i. f i x))
unfolding sum
sum-swap f b zero = sym (sum-zero b)
sum-swap f b (suc n) = ap (λ (k : ℕ). k + sum b (f n)) (sum-swap f b n) ∙ sym (sum-add (λ x. sum n (λ i. f i x)) (f n) b)

-- m for each number that passes
pub sum-each : (f : ℕ → Bool) (m n : ℕ) → sum n (λ x. cond (f x) m 0) ≡ count n f * m
unfolding sum count
sum-each f m zero = omega arith
sum-each f m (suc n) = at (f n) (sum-each f m n)
  where
    at : (b : Bool) → sum n (λ x. cond (f x) m 0) ≡ count n f * m → sum n (λ x. cond (f x) m 0) + cond b m 0 ≡ (count n f + cond b 1 0) * m
    at true h = omega arith
    at false h = omega arith

-- ---- lists

pub lists-none : (b k : ℕ) → lists b k (λ xs. false) ≡ 0
unfolding lists
lists-none b zero = refl
lists-none b (suc k) = sum_same b (λ x. lists-none b k) ∙ sum-zero b

pub lists-same : {f g : List ℕ → Bool} (b k : ℕ) → ((xs : List ℕ) → f xs ≡ g xs) → lists b k f ≡ lists b k g
lists-same b k e = ap (lists b k) (fun_ext e)

-- a test that is the same for all lists
pub lists-and : (b k : ℕ) (c : Bool) (f : List ℕ → Bool) → lists b k (λ xs. c && f xs) ≡ cond c (lists b k f) 0
lists-and b k true f = refl
lists-and b k false f = lists-none b k

-- ---- tries

module _ (far : ℕ → ℕ → Far) (size : ℕ) (mask : ℕ → ℕ) where
  -- of the lists that begin with a word of test c: the word alone, and the word before each list from the set m that it reaches
  tried-step : (n m : ℕ) (c : Bool) → cond c (suc (tried far size mask n m)) 0 ≡ sum (suc n) (λ i. lists 256 i (λ ws. c && chooses far size mask m ws))
  unfolding tried chooses lists
  tried-step n m true = sym (sum_first (λ i. lists 256 i (chooses far size mask m)) n ∙ one-add (sum n (λ i. lists 256 (suc i) (chooses far size mask m))))
  tried-step n m false = sym (sum_same (suc n) (λ i. lists-none 256 i) ∙ sum-zero (suc n))

  pub tries-tried : (n m : ℕ) → tries far size mask n m ≡ tried far size mask n m
  unfolding tries tried chooses lists
  tries-tried zero m = sym (sum-empty (λ i. lists 256 (suc i) (chooses far size mask m)))
  tries-tried (suc n) m =
      let c = common size mask m in
      sum_same 256 (λ w. ap (λ (k : ℕ). cond (choice w c) (suc k) 0) (tries-tried n (reach far size m w)) ∙ tried-step n (reach far size m w) (choice w c))
      ∙ sym (sum-swap (λ i w. lists 256 i (λ ws. choice w c && chooses far size mask (reach far size m w) ws)) 256 (suc n))

  -- at one stage before the last with all eight ports common, each of the 255 nonempty choices is one try
  pub tries-eight : (m : ℕ) → common size mask m ≡ 255 → tries far size mask 1 m ≡ 255
  unfolding tries sum choice within
  tries-eight m e = ap (λ (c : ℕ). sum 256 (λ w. cond (choice w c) 1 0)) e

  -- what is chosen is bytes, none of them empty: no list that chooses is left out of the count
  pub chooses-words : (m : ℕ) (ws : List ℕ) → T (chooses far size mask m ws) → Words ws
  unfolding chooses choice within Words
  chooses-words m [] h = tt
  chooses-words m (w ∷ ws) h =
      let c = common size mask m in
      let i = T_and (choice w c) (chooses far size mask (reach far size m w) ws) h in
      let j = T_and (ltb 0 w) (within w c) i.0 in
      let e = eqb→eq (bit_and w c) w j.1 in
      (ltb→lt 0 w j.0, omega (arith, and_le_r w c, common-byte size mask m), chooses-words (reach far size m w) ws i.1)

-- ---- what a header permits

-- ps has one port of each word of ws, and no more ports
unfoldable pub picks : List ℕ → List ℕ → Bool
picks [] [] = true
picks [] (p ∷ ps) = false
picks (w ∷ ws) [] = false
picks (w ∷ ws) (p ∷ ps) = has p w && picks ws ps

pub in-picks : (ws ps : List ℕ) → T (picks ws ps) ↔ Picks ps ws
unfolding picks Picks
in-picks [] [] = (λ h. h, λ h. h)
in-picks [] (p ∷ ps) = (λ h. h, λ h. h)
in-picks (w ∷ ws) [] = (λ h. h, λ h. h)
in-picks (w ∷ ws) (p ∷ ps) =
    (λ h. let b = T_and (has p w) (picks ws ps) h in (b.0, (in-picks ws ps).0 b.1), λ h. and_i (has p w) (picks ws ps) h.0 ((in-picks ws ps).1 h.1))

-- no port past 7 is picked: no list that picks is left out of the count
pub picks-below : (ws ps : List ℕ) → Words ws → Picks ps ws → (i : ℕ) → i < length ps → get_or ps i 0 < 8
unfolding Words Picks
picks-below [] [] h k i l = absurd (not-suc-le-zero l)
picks-below [] (p ∷ ps) h k i l = absurd k
picks-below (w ∷ ws) [] h k i l = absurd k
picks-below (w ∷ ws) (p ∷ ps) h k zero l = lt_of_not-le (λ g. subst T (has-small p 8 w h.1 g) k.0)
picks-below (w ∷ ws) (p ∷ ps) h k (suc i) l = picks-below ws ps h.2 k.1 i (le_of_suc-le-suc l)

pub permits-lists : (ws : List ℕ) → Words ws → permits ws ≡ lists 8 (length ws) (picks ws)
unfolding permits Words picks lists
permits-lists [] h = refl
permits-lists (w ∷ ws) h =
    ap₂ ◌*◌ (ones-count w h.1) (permits-lists ws h.2) ∙ sym (sum-each (λ p. has p w) (lists 8 (length ws) (picks ws)) 8)
    ∙ sum_same 8 (λ p. sym (lists-and 8 (length ws) (has p w) (picks ws)))
