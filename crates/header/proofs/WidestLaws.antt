-- The search for the widest header, turn by turn: each choice in rising order is tried, and what is kept is the widest of the headers whose
-- first word is below the next choice, with the tries summed that far. A part of the sum beyond the budget puts the whole beyond it.
-- Assumes nothing.
use Prim.Native.Nat.{ℕ, zero, suc, ◌+◌, ◌-◌, ◌≤◌, ◌<◌, zero-le}
use native.Mathlib.Nat.{le_refl, le_of_suc-le-suc, eq-or-lt_of_le}
use native.Mathlib.Numerals.{add-one}
use native.Mathlib.Omega.{arith}
use mathlib.Core.Path.{◌≡◌, refl, sym, ap, ap₂, ◌∙◌, subst}
use mathlib.Core.Logic.{⊎_elim}
use mathlib.Core.Bool.{Bool, true, false, cond}
use Rattle.std.specs.Prelude.{Some, None}
use Rattle.std.specs.Prelude as prelude
use Rattle.std.proofs.lemmas.Option.{cond_some, none-some}
use mathlib.Core.List.{List}
use Rattle.std.specs.Prelude.{Option, None}
use borrow.Author.Tests.{leb-true, leb-false, lt-leb, le-leb}
use lib.Dec.{T, leb}
use lib.Arith.{le-zero}
use lib.Count.{ones, ones_in}
use Rattle.rules.specs.Sets.{sum, least}
use Rattle.rules.specs.Net.{Far}
use Rattle.rules.specs.Tries.{choice, common, reach, tries}
use Rattle.rules.specs.Run.{wider, put, widest, best}
use Rattle.rules.proofs.SetLaws.{true-T, same-T, Least, least-is}
use Rattle.rules.proofs.Counts.{sum-part}
use Rattle.found.specs.declared.Found.{Found}
use Rattle.found.specs.Found.{last_found, wider_found}
use Rattle.header.specs.Search.{words_in, count_in, found, found_of, next_choice}
use Rattle.header.proofs.LastStage.{choice-some}
use Rattle.header.proofs.Widths.{Fine, wider-none, wider-found}

-- ---- the choices in rising order

pub record Next (c w k : ℕ) : Type 0 where
  pub low : w ≤ k
  pub high : k ≤ 256
  pub before : (s : ℕ) → w ≤ s → s < k → T (choice s c) → ⊥
  pub hit : k < 256 → T (choice k c)

pub next-is : (c w : ℕ) → w ≤ 256 → Next c w (next_choice w c)
unfolding next_choice
next-is c w l = record {
  low = omega arith;
  high = omega (arith, r.bound);
  before = λ s i j t. r.before (s - w) (omega arith) (subst (λ (x : ℕ). T (choice x c)) (let e : s ≡ w + (s - w) = omega arith in e) t);
  hit = λ j. r.hit (omega arith);
}
  where
    r : Least (256 - w) (λ k. choice (w + k) c) (least (256 - w) (λ k. choice (w + k) c))
    r = least-is (256 - w) (λ k. choice (w + k) c)

abbrev pub tried : Found → ℕ → Found
tried h k = record { words = h.words; count = h.count; tries = k }

-- The words w with what is found after each and the tries that takes, over any such `f` and `t`.
module _ (c : ℕ) (f : ℕ → Option (List ℕ)) (t : ℕ → ℕ) where
  abbrev pub tail : ℕ → Option (List ℕ)
  tail w = cond (choice w c) (f w) None

  abbrev pub more : ℕ → ℕ
  more w = let r = suc (t w) in cond (choice w c) r 0

  -- words that are no choice change nothing
  passed-same : (i j : ℕ) → i ≤ j → ((s : ℕ) → i ≤ s → s < j → T (choice s c) → ⊥) → (widest j tail ≡ widest i tail) × (sum j more ≡ sum i more)
  unfolding widest sum put
  passed-same i zero l h = let e = sym (le-zero l) in (ap (λ (x : ℕ). widest x tail) e, ap (λ (x : ℕ). sum x more) e)
  passed-same i (suc j) l h =
      ⊎_elim (λ e. (ap (λ (x : ℕ). widest x tail) (sym e), ap (λ (x : ℕ). sum x more) (sym e)))
      (λ k. let r = passed-same i j (le_of_suc-le-suc k) (λ s a b. h s a (omega arith)) in
      let e : choice j c ≡ false = same-T (choice j c) false (h j (le_of_suc-le-suc k) (le_refl (suc j))) (λ z. absurd z) in
      (rw e (wider-none (widest j tail) ∙ r.0), rw e (omega (arith, r.1))))
      (eq-or-lt_of_le l)

  -- the loop where w is the next choice
  pub record Turn (budget : ℕ) (h : Found) (k w : ℕ) : Type 0 where
    pub best-so-far : h ≡ found (widest w tail) 0
    pub tries-so-far : k ≡ sum w more
    pub in-budget : k ≤ budget
    pub high : w ≤ 256
    pub chosen : w < 256 → T (choice w c)

  -- from a word on, up to the next choice
  turn_on : (budget w k : ℕ) (h : Found) → w ≤ 256 → h ≡ found (widest w tail) 0 → k ≡ sum w more → k ≤ budget → Turn budget h k (next_choice w c)
  turn_on budget w k h l p q b =
      let n = next-is c w l in
      let r = passed-same w (next_choice w c) n.low n.before in
      record {
        best-so-far = p ∙ ap (λ (x : Option (List ℕ)). found x 0) (sym r.0);
        tries-so-far = q ∙ sym r.1;
        in-budget = b;
        high = n.high;
        chosen = n.hit;
      }

  pub turn-start : (budget : ℕ) → Turn budget (last_found 0) 0 (next_choice 1 c)
  unfolding found words_in count_in widest wider put sum choice ones ones_in
  turn-start budget = turn_on budget 1 0 (last_found 0) (omega arith) refl refl zero-le

  -- what the whole search finds
  abbrev pub whole : ℕ → prelude.Option Found
  whole budget = cond (leb (sum 256 more) budget) (Some (found (widest 256 tail) (sum 256 more))) None

  -- what is found after the word w
  abbrev pub rest : ℕ → ℕ → prelude.Option Found
  rest budget w = cond (leb (t w) budget) (Some (found (f w) (t w))) None

  module _ (budget : ℕ) (h : Found) (k w : ℕ) (u : Turn budget h k w) where
    -- no word is left
    pub end-at : 256 ≤ w → Some (tried h k) ≡ whole budget
    unfolding found
    end-at l =
        let e : w ≡ 256 = omega (arith, u.high) in
        let p = u.best-so-far ∙ ap (λ (x : ℕ). found (widest x tail) 0) e in
        let q = u.tries-so-far ∙ ap (λ (x : ℕ). sum x more) e in
        let b = le-leb (sum 256 more) budget (omega (arith, u.in-budget, q)) in
        rw b (ap₂ (λ (x : Found) (y : ℕ). Some (tried x y)) p q)

    module _ (l : w < 256) where
      sum-next : sum (suc w) more ≡ k + suc (t w)
      unfolding sum
      sum-next = let e = true-T (choice w c) (u.chosen l) in rw e (ap (λ (x : ℕ). x + suc (t w)) (sym u.tries-so-far))

      widest-next : widest (suc w) tail ≡ wider (widest w tail) (put w (f w))
      unfolding widest
      widest-next = let e = true-T (choice w c) (u.chosen l) in rw e

      past : budget < k + suc (t w) → whole budget ≡ None
      past b =
          let s = sum-part more (suc w) 256 l in
          let e = lt-leb (sum 256 more) budget (omega (arith, sum-next)) in rw e

      -- a try more is beyond the budget
      pub full_at : k ≡ budget → whole budget ≡ None
      full_at e = past (omega arith)

      module _ (room : k ≡ budget → ⊥) where
        -- what comes after the word is beyond what is left of it
        pub over-at : rest (budget - k - 1) w ≡ None → whole budget ≡ None
        over-at e = at (leb (t w) (budget - k - 1)) refl e
          where
            at : (b : Bool) → leb (t w) (budget - k - 1) ≡ b → cond b (Some (found (f w) (t w))) None ≡ None → whole budget ≡ None
            at true i j = absurd (none-some (found (f w) (t w)) (sym j))
            at false i j = past (let z = leb-false (t w) (budget - k - 1) i in omega (arith, u.in-budget))

        pub take_at : (n : ℕ) → n < 8 → Fine n (f w) → (r : Found) → rest (budget - k - 1) w ≡ Some r
            → Turn budget (wider_found h r w (suc n)) (k + (1 + r.tries)) (next_choice (w + 1) c)
        unfolding found
        take_at n m s r e =
            let v = cond_some (leb (t w) (budget - k - 1)) (found (f w) (t w)) r e in
            let b = leb-true (t w) (budget - k - 1) v.0 in
            let q = sym v.1 in
            let i : r.tries ≡ t w = ap (λ (x : Found). x.tries) q in
            subst (λ (x : ℕ). Turn budget (wider_found h r w (suc n)) (k + (1 + r.tries)) (next_choice x c)) (sym (add-one w))
            (turn_on budget (suc w) (k + (1 + r.tries)) (wider_found h r w (suc n)) l
            (ap₂ (λ (x y : Found). wider_found x y w (suc n)) u.best-so-far q
            ∙ wider-found n (t w) w (widest w tail) (f w) m (choice-some w c (u.chosen l)) s
            ∙ ap (λ (x : Option (List ℕ)). found x 0) (sym widest-next))
            (omega (arith, sum-next)) (omega (arith, u.in-budget, b)))

-- ---- in a network: from the set m, with `left` words to find, at least two

module _ (far : ℕ → ℕ → Far) (size : ℕ) (mask : ℕ → ℕ) (m left : ℕ) where
  abbrev pub after : ℕ → Option (List ℕ)
  after w = best far size mask (left - 1) (reach far size m w)

  abbrev pub cost : ℕ → ℕ
  cost w = tries far size mask (left - 1 - 1) (reach far size m w)

  tries-step : (n : ℕ) → 1 ≤ n → tries far size mask n m ≡ sum 256 (more (common size mask m) after (λ w. tries far size mask (n - 1) (reach far size m w)))
  unfolding tries
  tries-step zero l = absurd (omega arith)
  tries-step (suc n) l =
      let e : n ≡ suc n - 1 = omega arith in
      ap (λ (x : ℕ). sum 256 (more (common size mask m) after (λ w. tries far size mask x (reach far size m w)))) e

  best-step : (n : ℕ) → 1 ≤ n → best far size mask n m ≡ widest 256 (tail (common size mask m) (λ w. best far size mask (n - 1) (reach far size m w)) cost)
  unfolding best
  best-step zero l = absurd (omega arith)
  best-step (suc n) l =
      let e : n ≡ suc n - 1 = omega arith in
      ap (λ (x : ℕ). widest 256 (tail (common size mask m) (λ w. best far size mask x (reach far size m w)) cost)) e

  pub whole_is : (c budget : ℕ) → c ≡ common size mask m → 2 ≤ left → whole c after cost budget ≡ found_of far size mask m left budget
  unfolding found_of
  whole_is c budget e l =
      let p = tries-step (left - 1) (omega arith) in
      let q = best-step left (omega arith) in
      subst (λ (x : ℕ). whole x after cost budget ≡ found_of far size mask m left budget) (sym e)
      (sym (ap₂ (λ (k : ℕ) (r : Option (List ℕ)). cond (leb k budget) (Some (found r k)) None) p q))
