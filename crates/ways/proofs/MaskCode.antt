-- The masks as the code makes them: a mask grown a port at a time, and the masks of all switches, written from the last of the order to the
-- first. Assumes nothing.
use Prim.Native.Nat.{ℕ, zero, suc, ◌+◌, ◌*◌, ◌%◌, ◌-◌, ◌^◌, ◌≤◌, ◌<◌}
use native.Mathlib.Nat.{le_refl, eq-zero-or-pos}
use native.Mathlib.Decide.{dec_le, ℕ_discrete}
use native.Mathlib.Numerals.{add-one}
use native.Mathlib.Omega.{arith}
use mathlib.Core.Path.{◌≡◌, sym, ap, ◌∙◌, subst}
use mathlib.Core.Logic.{◌⊎◌, inl, inr, ⊎_elim}
use mathlib.Core.Bool.{Bool, true, false}
use mathlib.Core.List.{List}
use lib.Dec.{eqb}
use lib.ListN.{length, get_or, set, replicate, length-set, length-replicate}
use lib.Seq.{get_or-set_same, get_or-set_other, ext_get_or}
use lib.Pow.{shl_exact}
use Rattle.std.specs.Int.Bits.{bit_or, or_shifted_r}
use Rattle.rules.specs.Sets.{set_of, tabulate}
use Rattle.rules.specs.declared.Entry.{Entry}
use Rattle.rules.specs.declared.Entry.TheVariants.{Node}
use Rattle.rules.specs.Table.{house, leads, switches, far_of}
use Rattle.rules.specs.Run.{mask_of}
use Rattle.rules.specs.RunPair.{mask}
use Rattle.rules.proofs.SetLaws.{set_of-lt}
use Rattle.rules.proofs.Tables.{far_of-wired}
use Rattle.rules.proofs.Lists.{length-tabulate, get_d_tabulate}
use Rattle.ways.specs.Onward.{ahead, onward_of}
use Rattle.ways.specs.Inner.{Ready}
use Rattle.ways.proofs.QueueLaws.{zeros}
use Rattle.ways.proofs.Forward.{mask-none, onward-step}

-- ---- one entry

-- a processor that stands there: it counts at the last switch alone, and there the target alone
module _ (d : ℕ) (last : Bool) (depth masks : List ℕ) (n : ℕ) {e : Entry} where
  pub ahead-early : {a : ℕ} → e ≡ Node a → last ≡ false → false ≡ ahead d last depth masks n (leads e)
  unfolding ahead leads
  ahead-early q h = rw (q, h)

  pub ahead_own : {a b : ℕ} → e ≡ Node a → b ≡ a → last ≡ true → eqb b d ≡ ahead d last depth masks n (leads e)
  unfolding ahead leads
  ahead_own q k h = rw (q, k, h)

-- ---- one switch

module _ (f : ℕ → Bool) (p : ℕ) where
  pub grown_without : f p ≡ false → set_of p f ≡ set_of (p + 1) f
  unfolding set_of
  grown_without e = rw (add-one p, e) (omega arith)

  -- `mask |= 1 << p`
  pub grown_with : p < 8 → f p ≡ true → bit_or (set_of p f) (1 * 2 ^ p % 2 ^ 8) ≡ set_of (p + 1) f
  unfolding set_of
  grown_with l e =
      let o = or_shifted_r 1 p (set_of p f) (set_of-lt p f) in
      let s : 1 * 2 ^ p % 2 ^ 8 ≡ 1 * 2 ^ p = shl_exact 1 p 8 (omega arith) (omega arith) in
      rw (s, add-one p, e) (omega arith)

-- ---- all switches

-- the masks of the switches of the order from place i on have been written, and nothing else
pub record Written (mask : ℕ → ℕ) (order : List ℕ) (reached : ℕ) (masks : List ℕ) (i : ℕ) : Type 0 where
  pub some : i ≤ reached
  pub long : length masks ≡ 64
  pub done : (j : ℕ) → i ≤ j → j < reached → get_or masks (get_or order j 0) 0 ≡ mask (get_or order j 0)
  pub rest : (s : ℕ) → (get_or masks s 0 ≡ 0) ⊎ ((j : ℕ) × (i ≤ j) × (j < reached) × (get_or order j 0 ≡ s))

pub written_start : {mask : ℕ → ℕ} {order : List ℕ} {reached : ℕ} → Written mask order reached (replicate 64 0) reached
written_start = record { some = le_refl _; long = length-replicate {A = ℕ} 64 0; done = λ j l m. absurd (omega arith); rest = λ s. inl (zeros 64 s) }

module _ {t : List ℕ} {d a : ℕ} {order depth : List ℕ} {reached n : ℕ} (few : switches t ≤ 64) (r : Ready t d a order depth reached n) where
  abbrev M : ℕ → ℕ
  M = mask_of (far_of house t) (switches t) d a

  abbrev D : ℕ → ℕ
  D s = get_or depth s 0

  abbrev O : ℕ → ℕ
  O i = get_or order i 0

  none : (s : ℕ) → (D s ≡ 0) ⊎ (n < D s) → M s ≡ 0
  none = mask-none (far_of house t) (switches t) (far_of-wired house t) a d n r.distance depth r.searched.depths

  -- a mask that was written at some place of the order is that of the switch
  module _ {masks : List ℕ} {i : ℕ} (w : Written M order reached masks i) where
    done_at : {v : ℕ} → (j : ℕ) × (i ≤ j) × (j < reached) × (O j ≡ v) → get_or masks v 0 ≡ M v
    done_at f = subst (λ (u : ℕ). get_or masks u 0 ≡ M u) f.3 (w.done f.0 f.1 f.2)

    pub written_end : i ≤ 0 → masks ≡ tabulate 64 M
    written_end z =
        ext_get_or 0 masks (tabulate 64 M) (w.long ∙ sym (length-tabulate 64 M))
        (λ s l. let e = w.long in at s (eq-zero-or-pos (D s)) ∙ sym (get_d_tabulate 64 M s 0 (omega arith)))
      where
        at : (s : ℕ) → (D s ≡ 0) ⊎ (zero < D s) → get_or masks s 0 ≡ M s
        at s c =
            ⊎_elim (λ e. ⊎_elim (λ k. k ∙ sym (none s (inl e))) done_at (w.rest s))
            (λ h. let f = r.searched.found s h in done_at (f.0, omega arith, f.1, f.2)) c

    -- ---- the turn at s, the switch at the place before i
    module _ {s : ℕ} (pos : zero < i) (here : s ≡ O (i - 1)) where
      last : i - 1 < reached
      last = let h = w.some in omega arith

      pub turn_inside : s < switches t
      turn_inside = rw here (r.searched.inside (O (i - 1)) (r.searched.listed (i - 1) last))

      pub turn_small : s < 64
      turn_small = let k = turn_inside in omega arith

      -- a switch one deeper comes later in the order
      right : (v : ℕ) → D v ≡ suc (D s) → get_or masks v 0 ≡ M v
      right v e = let f = r.searched.found v (omega arith) in done_at (f.0, later f.0 f.1 f.2 (dec_le i f.0), f.1, f.2)
        where
          later : (j : ℕ) → j < reached → O j ≡ v → Dec (i ≤ j) → i ≤ j
          later j l f (yes k) = k
          later j l f (no k) =
              let h = r.searched.rising j (i - 1) (omega arith) last in
              let x = ap D f in
              let y = ap D here in
              absurd (omega arith)

      mask-right : onward_of (far_of house t) s d (eqb (D s) n) depth masks ≡ M s
      mask-right =
          onward-step (far_of house t) (switches t) (far_of-wired house t) a d n r.distance depth masks r.searched.depths s
          (rw here (r.searched.listed (i - 1) last)) right

      -- what holds at s and at the places from i on holds at those from i - 1 on
      more : (P : ℕ → Type 0) → P s → ((j : ℕ) → i ≤ j → j < reached → P (O j)) → (j : ℕ) → i - 1 ≤ j → j < reached → P (O j)
      more P h k j l m = at (dec_le i j)
        where
          at : Dec (i ≤ j) → P (O j)
          at (yes o) = k j o m
          at (no o) = let e : i - 1 ≡ j = omega arith in subst P (here ∙ ap O e) h

      pub written_skip : n < D s → Written M order reached masks (i - 1)
      written_skip h = record {
        some = let k = last in omega arith;
        long = w.long;
        done = more (λ v. get_or masks v 0 ≡ M v) (⊎_elim (λ k. k ∙ sym (none s (inr h))) done_at (w.rest s)) w.done;
        rest = λ v. ⊎_elim inl (λ f. let k = f.1 in inr (f.0, omega arith, f.2, f.3)) (w.rest v);
      }

      pub written_one : {m : ℕ} → m ≡ onward_of (far_of house t) s d (eqb (D s) n) depth masks → Written M order reached (set masks s m) (i - 1)
      written_one {m} e = record {
        some = let k = last in omega arith;
        long = length-set masks s m ∙ w.long;
        done = more (λ v. get_or (set masks s m) v 0 ≡ M v) new (λ j l k. done (O j) (w.done j l k) (ℕ_discrete (O j) s));
        rest = λ v. rest v (ℕ_discrete v s);
      }
        where
          new : get_or (set masks s m) s 0 ≡ M s
          new = let k = turn_small in let l = w.long in get_or-set_same masks s m 0 (omega arith) ∙ e ∙ mask-right

          done : (v : ℕ) → get_or masks v 0 ≡ M v → Dec (v ≡ s) → get_or (set masks s m) v 0 ≡ M v
          done v h (yes k) = rw k new
          done v h (no k) = get_or-set_other masks s v m 0 k ∙ h

          rest : (v : ℕ) → Dec (v ≡ s) → (get_or (set masks s m) v 0 ≡ 0) ⊎ ((j : ℕ) × (i - 1 ≤ j) × (j < reached) × (O j ≡ v))
          rest v (yes k) = inr (i - 1, le_refl (i - 1), last, sym here ∙ sym k)
          rest v (no k) =
              ⊎_elim (λ h. inl (get_or-set_other masks s v m 0 k ∙ h)) (λ f. let l = f.1 in inr (f.0, omega arith, f.2, f.3)) (w.rest v)
