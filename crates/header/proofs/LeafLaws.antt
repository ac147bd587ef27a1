-- The sets of the search by their members: the ports common to a set, and what a word reaches, which is what its ports reach alone, joined.
-- Two numbers are one set where they have the same members. Assumes nothing.
use Prim.Native.Nat.{ℕ, zero, suc, ◌+◌, ◌/◌, ◌%◌, ◌^◌, ◌≤◌, ◌<◌}
use native.Mathlib.Nat.{le_refl, not-suc-le-zero, lt_of_not-le, lt_of_lt_of_le}
use native.Mathlib.Numerals.{add-one}
use native.Mathlib.Omega.{arith}
use borrow.Author.Tests.{ne_eqb}
use mathlib.Core.Path.{◌≡◌, refl, sym, ap, ◌∙◌, subst}
use mathlib.Core.Logic.{◌⊎◌, inl, inr, ◌↔◌, ⊎_elim}
use mathlib.Core.Bool.{Bool, true, false, cond, ◌||◌, not}
use mathlib.Core.List.{List}
use lib.Dec.{T, eqb→eq, eqb_refl}
use lib.ListN.{get_or}
use lib.Bits.{bit_and, bit_or}
use Rattle.std.proofs.lemmas.Nat.Bits.{shr_and_one}
use lib.Pow.{pow_mono}
use Rattle.rules.specs.Sets.{has, all}
use Rattle.rules.specs.Net.{Far, switch, Wired}
use Rattle.rules.specs.Tries.{common, reach, reaches}
use Rattle.rules.proofs.SetLaws.{T-if, T-or, or_l, or_r, T_true, true-T, same-T, same, lt-cases, all-at, all_yes, in-set_of, set_of-lt, has-small, has-nothing, has-or, has-single}
use Rattle.rules.proofs.Lists.{get_d_tabulate}
use Rattle.rules.proofs.Search.{in_reach}
use Rattle.header.specs.Search.{singles, joined}

-- two sets with the same members are one number
pub same-members : (m n : ℕ) → ((s : ℕ) → T (has s m) → T (has s n)) → ((s : ℕ) → T (has s n) → T (has s m)) → m ≡ n
same-members m n f g = same m n (λ s. same-T (has s m) (has s n) (f s) (g s))

pub in-or : (a b s : ℕ) → T (has s (bit_or a b)) ↔ (T (has s a) ⊎ T (has s b))
in-or a b s = (
  λ h. T-or (has s a) (has s b) (subst T (has-or s a b) h),
  λ h. subst T (sym (has-or s a b)) (⊎_elim (or_l (has s a) (has s b)) (or_r (has s a) (has s b)) h),
)

-- a member of a number of n digits is below n
pub member_lt : (n m s : ℕ) → m < 2 ^ n → T (has s m) → s < n
member_lt n m s l h = lt_of_not-le (λ k. subst T (has-small s n m l k) h)

-- ---- the ports common to a set

pub in-common : (size : ℕ) (mask : ℕ → ℕ) (m p : ℕ) → m < 2 ^ size
    → T (has p (common size mask m)) ↔ ((p < 8) × ((s : ℕ) → T (has s m) → T (has p (mask s))))
unfolding common
in-common size mask m p l = (
  λ h. let i = (in-set_of 8 (λ p. all size (at p)) p).0 h in
      (i.0, λ s k. (T-if (has s m) (has p (mask s))).0 (all-at size (at p) i.1 s (member_lt size m s l k)) k),
  λ h. (in-set_of 8 (λ p. all size (at p)) p).1 (h.0, all_yes size (at p) (λ s _. (T-if (has s m) (has p (mask s))).1 (h.1 s))),
)
  where
    at : ℕ → ℕ → Bool
    at p s = not (has s m) || has p (mask s)

-- switches beyond those of the set do not count
pub common-size : (size : ℕ) (mask : ℕ → ℕ) (m : ℕ) → m < 2 ^ size → size ≤ 64 → common 64 mask m ≡ common size mask m
common-size size mask m l k =
    let wide : m < 2 ^ 64 = lt_of_lt_of_le l (pow_mono k) in
    same-members (common 64 mask m) (common size mask m)
    (λ p h. (in-common size mask m p l).1 ((in-common 64 mask m p wide).0 h))
    (λ p h. (in-common 64 mask m p wide).1 ((in-common size mask m p l).0 h))

-- ---- the sets of a word's ports together

pub in-joined : (sets : List ℕ) (w k t : ℕ) → T (has t (joined sets w k)) ↔ ((p : ℕ) × (p < k) × T (has p w) × T (has t (get_or sets p 0)))
unfolding joined
in-joined sets w zero t = (λ h. absurd (subst T (has-nothing t) h), λ h. absurd (not-suc-le-zero h.1))
in-joined sets w (suc k) t = at (has k w) refl (in-joined sets w k t)
  where
    at : (b : Bool) → has k w ≡ b → T (has t (joined sets w k)) ↔ ((p : ℕ) × (p < k) × T (has p w) × T (has t (get_or sets p 0)))
        → T (has t (cond b (bit_or (joined sets w k) (get_or sets k 0)) (joined sets w k))) ↔ ((p : ℕ) × (p < suc k) × T (has p w) × T (has t (get_or sets p 0)))
    at true e i = (
      λ h. ⊎_elim (λ h. let r = i.0 h in (r.0, omega arith, r.2, r.3)) (λ h. (k, le_refl (suc k), T_true e, h))
          ((in-or (joined sets w k) (get_or sets k 0) t).0 h),
      λ h. (in-or (joined sets w k) (get_or sets k 0) t).1 (⊎_elim
          (λ q. inr (subst (λ (p : ℕ). T (has t (get_or sets p 0))) q h.3))
          (λ l. inl (i.1 (h.0, l, h.2, h.3))) (lt-cases h.1)),
    )
    at false e i = (
      λ h. let r = i.0 h in (r.0, omega arith, r.2, r.3),
      λ h. i.1 (h.0, ⊎_elim (λ q. absurd (subst T e (subst (λ (p : ℕ). T (has p w)) q h.2))) (λ l. l) (lt-cases h.1), h.2, h.3),
    )

pub singles-at : (far : ℕ → ℕ → Far) (size m c p : ℕ) → p < 8 → get_or (singles far size m c) p 0 ≡ cond (has p c) (reach far size m (2 ^ p)) 0
unfolding singles
singles-at far size m c p l = get_d_tabulate 8 (λ p. cond (has p c) (reach far size m (2 ^ p)) 0) p 0 l

pub reach-lt : (far : ℕ → ℕ → Far) (size m w : ℕ) → reach far size m w < 2 ^ size
unfolding reach
reach-lt far size m w = set_of-lt size (reaches far size m (λ _. w))

module _ (far : ℕ → ℕ → Far) (size : ℕ) (wired : Wired far size) where
  pub port-lt : {s p t : ℕ} → far s p ≡ switch t → p < 8
  port-lt {s} {p} e = (wired.inside s p (λ n. let z : ◌≡◌ {A = ℕ} 0 1 = cc in omega arith)).1

  -- what one port alone reaches
  pub in-single : (m p t : ℕ) → T (has t (reach far size m (2 ^ p))) ↔ ((s : ℕ) × T (has s m) × (far s p ≡ switch t))
  in-single m p t = (
    λ h. let r = (in_reach far size wired m (2 ^ p) t).0 h in
        let q = eqb→eq r.by p (subst T (has-single p r.by) r.permitted) in
        (r.«from», r.there, subst (λ (k : ℕ). far r.«from» k ≡ switch t) q r.link),
    λ h. (in_reach far size wired m (2 ^ p) t).1
        (record { «from» = h.0; by = p; there = h.1; permitted = subst T (sym (has-single p p)) (eqb_refl p); link = h.2 }),
  )

  single-at : (m c p : ℕ) → p < 8 → T (has p c) → get_or (singles far size m c) p 0 ≡ reach far size m (2 ^ p)
  single-at m c p l h = singles-at far size m c p l ∙ ap (λ (b : Bool). cond b (reach far size m (2 ^ p)) 0) (true-T (has p c) h)

  -- the ports of a word that is within those followed
  pub joined-reach : (m c w : ℕ) → ((p : ℕ) → T (has p w) → T (has p c)) → joined (singles far size m c) w 8 ≡ reach far size m w
  joined-reach m c w i =
      same-members (joined (singles far size m c) w 8) (reach far size m w)
      (λ t h. let j = (in-joined (singles far size m c) w 8 t).0 h in
      let r = (in-single m j.0 t).0 (subst (λ (x : ℕ). T (has t x)) (single-at m c j.0 j.1 (i j.0 j.2)) j.3) in
      (in_reach far size wired m w t).1 (record { «from» = r.0; by = j.0; there = r.1; permitted = j.2; link = r.2 }))
      (λ t h. let r = (in_reach far size wired m w t).0 h in
      let l = port-lt r.link in
      (in-joined (singles far size m c) w 8 t).1 (
        r.by,
        l,
        r.permitted,
        subst (λ (x : ℕ). T (has t x)) (sym (single-at m c r.by l (i r.by r.permitted)))
            ((in-single m r.by t).1 (r.«from», r.there, r.link)),
      ))

-- the bit of a port, as the code reads it
pub one-bit : (c p : ℕ) → bit_and (c / 2 ^ p) 1 ≡ c / 2 ^ p % 2
one-bit c p = shr_and_one c p

-- one port more
module _ (sets : List ℕ) (w k : ℕ) {m : ℕ} (sofar : m ≡ joined sets w k) where
  pub joined_in : bit_and (w / 2 ^ k) 1 ≡ 1 → bit_or m (get_or sets k 0) ≡ joined sets w (k + 1)
  unfolding joined has
  joined_in e = let i = sym (one-bit w k) ∙ e in rw (add-one, i, sofar)

  pub joined_out : (bit_and (w / 2 ^ k) 1 ≡ 1 → ⊥) → m ≡ joined sets w (k + 1)
  unfolding joined has
  joined_out e = rw (add-one, ne_eqb (w / 2 ^ k % 2) 1 (λ i. e (one-bit w k ∙ i))) sofar
