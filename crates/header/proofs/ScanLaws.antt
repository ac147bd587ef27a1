-- A scan over the switches of a set, one taken out after another: at 0 all were met. What the scan gathers, here the common ports, is told by
-- the switches met. Assumes nothing.
use Prim.Native.Nat.{ℕ, ◌-◌, ◌/◌, ◌%◌, ◌*◌, ◌^◌, ◌≤◌, ◌<◌}
use native.Mathlib.Nat.{lt_of_le_of_lt}
use native.Mathlib.Decide.{ℕ_discrete}
use native.Mathlib.Omega.{arith}
use mathlib.Core.Path.{◌≡◌, refl, sym, ◌∙◌, subst}
use mathlib.Core.Logic.{◌⊎◌, inl, inr, ◌↔◌, ⊎_elim}
use mathlib.Core.Bool.{true}
use lib.Dec.{T, eqb→eq}
use lib.Bits.{bit_and, and_le_l}
use lib.Count.{count_trailing_zeros}
use mir.Syntax.{w64}
use Rattle.std.proofs.lemmas.Nat.Bits.{bit_at-trailing_zeros, bit_at_clear_same, bit_at_clear_other}
use Rattle.rules.specs.Sets.{has, set_of}
use Rattle.rules.specs.Tries.{common}
use Rattle.rules.proofs.SetLaws.{T_and, and_i, eq-T, in-set_of, has-nothing, has-and}
use Rattle.header.specs.Search.{Leaves}
use Rattle.header.proofs.LeafLaws.{same-members, member_lt, in-common}

-- ---- the lowest is taken out

module _ (m : ℕ) (wide : m < 2 ^ 64) where
  pub leaves_lowest : (m ≡ 0 → ⊥) → Leaves m (count_trailing_zeros 64 m) (bit_and m (18446744073709551615 - 1 * 2 ^ count_trailing_zeros 64 m % 2 ^ 64))
  unfolding has
  leaves_lowest some = record {
    here = eq-T (m / 2 ^ s % 2) 1 low.1;
    lowest = λ j l h. let z = low.2 j l in let o = eqb→eq (m / 2 ^ j % 2) 1 h in omega arith;
    others = λ j. (
      λ h. let i = ltj j h in (
        eq-T (m / 2 ^ j % 2) 1 (sym (bit_at_clear_other w64 m s low.0 j i (apart j h)) ∙ eqb→eq (n / 2 ^ j % 2) 1 h),
        apart j h,
      ),
      λ h. eq-T (n / 2 ^ j % 2) 1 (bit_at_clear_other w64 m s low.0 j (member_lt 64 m j wide h.0) h.1 ∙ eqb→eq (m / 2 ^ j % 2) 1 h.0),
    );
  }
    where
      s : ℕ
      s = count_trailing_zeros 64 m

      n : ℕ
      n = bit_and m (18446744073709551615 - 1 * 2 ^ count_trailing_zeros 64 m % 2 ^ 64)

      low : (count_trailing_zeros 64 m < 64) × (m / 2 ^ count_trailing_zeros 64 m % 2 ≡ 1) × ((i : ℕ) → i < count_trailing_zeros 64 m → m / 2 ^ i % 2 ≡ 0)
      low = bit_at-trailing_zeros w64 m (omega arith) wide

      ltj : (j : ℕ) → T (has j n) → j < 64
      ltj j h = member_lt 64 n j (lt_of_le_of_lt (and_le_l m (18446744073709551615 - 1 * 2 ^ count_trailing_zeros 64 m % 2 ^ 64)) wide) h

      apart : (j : ℕ) → T (has j n) → j ≡ s → ⊥
      apart j h e =
          let z = bit_at_clear_same w64 m s low.0 in
          let o = eqb→eq (n / 2 ^ s % 2) 1 (subst (λ (x : ℕ). T (has x n)) e h) in
          omega arith

-- ---- a switch is taken out, the lowest or another: what the laws below ask of a turn, since no order matters to them

-- s is a switch of the set m, and n has the others
pub record TakesOut (m s n : ℕ) : Type 0 where
  pub here : T (has s m)
  pub others : (j : ℕ) → T (has j n) ↔ (T (has j m) × (j ≡ s → ⊥))

pub takes_out : {m s n : ℕ} → Leaves m s n → TakesOut m s n
takes_out h = record { here = h.here; others = h.others }

-- fewer are left
pub leaves_less : (m s n : ℕ) → TakesOut m s n → n ≤ m → n < m
leaves_less m s n h l = at (ℕ_discrete n m)
  where
    at : Dec (n ≡ m) → n < m
    at (yes e) = absurd (((h.others s).0 (subst (λ (x : ℕ). T (has s x)) (sym e) h.here)).1 refl)
    at (no d) = omega arith

-- ---- what is left of a set

-- a switch that is not left was taken out before, or is the one taken out now
pub met : {m s n : ℕ} → TakesOut m s n → (u : ℕ) → (T (has u n) → ⊥) → (T (has u m) → ⊥) ⊎ (u ≡ s)
met {m} {s} {n} h u out = at (ℕ_discrete u s)
  where
    at : Dec (u ≡ s) → (T (has u m) → ⊥) ⊎ (u ≡ s)
    at (yes e) = inr e
    at (no d) = inl (λ k. out ((h.others u).1 (k, d)))

-- the switches left are those of the set
pub record Left (m rest : ℕ) : Type 0 where
  pub wide : m < 2 ^ 64
  pub inside : (u : ℕ) → T (has u rest) → T (has u m)

pub left_start : {m rest : ℕ} → m < 2 ^ 64 → rest ≡ m → Left m rest
left_start l e = record { wide = l; inside = λ u h. subst (λ (x : ℕ). T (has u x)) e h }

pub left_on : {m rest s n : ℕ} → Left m rest → TakesOut rest s n → Left m n
left_on l h = record { wide = l.wide; inside = λ u k. l.inside u ((h.others u).0 k).0 }

-- ---- the common ports

-- ports are those common to the masks of the switches of the set that are not left
pub record CommonTo (mask : ℕ → ℕ) (m rest ports : ℕ) : Type 0 where
  pub out : (p : ℕ) → T (has p ports) → (p < 8) × ((u : ℕ) → T (has u m) → (T (has u rest) → ⊥) → T (has p (mask u)))
  pub back : (p : ℕ) → p < 8 → ((u : ℕ) → T (has u m) → (T (has u rest) → ⊥) → T (has p (mask u))) → T (has p ports)

module _ (mask : ℕ → ℕ) (m : ℕ) where
  pub common_start : {rest : ℕ} → rest ≡ m → CommonTo mask m rest 255
  unfolding set_of
  common_start {rest} e = record {
    out = λ p h. (((in-set_of 8 (λ _. true) p).0 h).0, λ u k n. absurd (n (subst (λ (x : ℕ). T (has u x)) (sym e) k)));
    back = λ p l f. (in-set_of 8 (λ _. true) p).1 (l, tt);
  }

  pub common_on : {rest s n ports : ℕ} → Left m rest → TakesOut rest s n → CommonTo mask m rest ports → CommonTo mask m n (bit_and ports (mask s))
  common_on {rest} {s} {n} {ports} l h c = record {
    out = λ p k. let i = T_and (has p ports) (has p (mask s)) (subst T (has-and p ports (mask s)) k) in
        let o = c.out p i.0 in
        (o.0, λ u t d. ⊎_elim (λ b. o.1 u t b) (λ e. subst (λ (x : ℕ). T (has p (mask x))) (sym e) i.1) (met h u d));
    back = λ p b f. subst T (sym (has-and p ports (mask s))) (and_i (has p ports) (has p (mask s))
        (c.back p b (λ u t d. f u t (λ k. d ((h.others u).0 k).0))) (f s (l.inside s h.here) (λ k. ((h.others s).0 k).1 refl)));
  }

  pub common_all : {rest ports : ℕ} → Left m rest → rest ≡ 0 → CommonTo mask m rest ports → ports ≡ common 64 mask m
  common_all {rest} {ports} l z c =
      let none : (u : ℕ) → T (has u rest) → ⊥ = λ u h. subst T (has-nothing u) (subst (λ (x : ℕ). T (has u x)) z h) in
      same-members ports (common 64 mask m)
      (λ p h. let o = c.out p h in (in-common 64 mask m p l.wide).1 (o.0, λ u t. o.1 u t (none u)))
      (λ p h. let o = (in-common 64 mask m p l.wide).0 h in c.back p o.0 (λ u t _. o.1 u t))
