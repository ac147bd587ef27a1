-- What an entry is, by 01's ranges; that a table is wired within its own switches, whatever its entries; and that the tests for bad
-- entries and repeated processors are the faults. Each follows the ranges of `kind`, once. Assumes nothing.
use Prim.Native.Nat.{ℕ, zero, ◌+◌, ◌*◌, ◌-◌, ◌/◌, ◌%◌, ◌≤◌, ◌<◌}
use native.Mathlib.Decide.{ℕ_discrete}
use native.Mathlib.Omega.{arith}
use mathlib.Core.Path.{◌≡◌, refl, sym, ap, ◌∙◌, subst}
use mathlib.Core.Logic.{◌↔◌, inl, inr, ⊎_elim}
use mathlib.Core.Bool.{Bool, true, false, cond, ◌&&◌, ◌||◌, not}
use mathlib.Core.List.{List}
use lib.Dec.{T, eqb, ltb, leb, ltb→lt, lt→ltb, leb→le, le→leb, nltb→le, eqb→eq, not_T, T_not}
use lib.ListN.{length, get_or}
use Rattle.rules.specs.declared.Entry.{Entry}
use Rattle.rules.specs.declared.Entry.TheVariants.{Switch, Node, Nothing, Bad}
use Rattle.rules.specs.Net.{Far, switch, node, nothing, Wired}
use Rattle.rules.specs.Table.{Sizes, no_link, kind, leads, switches, kind_at, far_of, WrongLength, BadAt, Sound}
use Rattle.rules.specs.RunTable.{is_bad, bad_length, bad_at}
use Rattle.rules.proofs.SetLaws.{not-lt, T_and, and_i, T-or, or_l, or_r, T_true, eq-T}

-- the entry is in the range of the processors
abbrev pub InRange : Sizes → ℕ → Type 0
InRange z e = (z.first ≤ e) × (e < z.first + z.nodes)

-- 01's entry table, a constructor for each row, and one for what is in none
pub data Sorted (z : Sizes) (n e : ℕ) : Entry → Type 0 where
  link : e < n → Sorted z n e (Switch e)
  processor : n ≤ e → InRange z e → Sorted z n e (Node (e - z.first))
  none : n ≤ e → ¬ (InRange z e) → e ≡ no_link → Sorted z n e Nothing
  bad : n ≤ e → ¬ (InRange z e) → ¬ (e ≡ no_link) → Sorted z n e Bad

pub kind-sorted : (z : Sizes) (n e : ℕ) → Sorted z n e (kind z n e)
unfolding kind
kind-sorted z n e = at (ltb e n) refl
  where
    last : (b : Bool) → eqb e no_link ≡ b → n ≤ e → ¬ (InRange z e) → Sorted z n e (cond b Nothing Bad)
    last true h l k = none l k (eqb→eq e no_link (T_true h))
    last false h l k = bad l k (λ m. subst T h (eq-T e no_link m))

    rest : (b : Bool) → (leb z.first e && ltb e (z.first + z.nodes)) ≡ b → n ≤ e → Sorted z n e (cond b (Node (e - z.first)) (cond (eqb e no_link) Nothing Bad))
    rest true h l = let i = T_and (leb z.first e) (ltb e (z.first + z.nodes)) (T_true h) in processor l (leb→le z.first e i.0, ltb→lt e (z.first + z.nodes) i.1)
    rest false h l =
        last (eqb e no_link) refl l
        (λ m. subst T h (and_i (leb z.first e) (ltb e (z.first + z.nodes)) (le→leb z.first e m.0) (lt→ltb e (z.first + z.nodes) m.1)))

    at : (b : Bool) → ltb e n ≡ b → Sorted z n e (cond b (Switch e) (cond (leb z.first e && ltb e (z.first + z.nodes)) (Node (e - z.first)) (cond (eqb e no_link) Nothing Bad)))
    at true h = link (ltb→lt e n (T_true h))
    at false h = rest (leb z.first e && ltb e (z.first + z.nodes)) refl (nltb→le e n (not_T (ltb e n) (λ m. subst T h m)))

module _ (z : Sizes) (n e : ℕ) where
  by_kind : (P : Entry → Type 0) → ((x : Entry) → Sorted z n e x → P x) → P (kind z n e)
  by_kind P f = f (kind z n e) (kind-sorted z n e)

  pub kind-switch : (s : ℕ) → kind z n e ≡ Switch s → (e ≡ s) × (e < n)
  kind-switch s = by_kind (λ x. x ≡ Switch s → (e ≡ s) × (e < n)) at
    where
      at : (x : Entry) → Sorted z n e x → x ≡ Switch s → (e ≡ s) × (e < n)
      at x (link l) h = (cc, l)
      at x (processor l m) h = let q : ◌≡◌ {A = ℕ} 0 1 = cc in absurd (omega arith)
      at x (none l m k) h = let q : ◌≡◌ {A = ℕ} 0 1 = cc in absurd (omega arith)
      at x (bad l m k) h = let q : ◌≡◌ {A = ℕ} 0 1 = cc in absurd (omega arith)

  pub kind-node : (a : ℕ) → kind z n e ≡ Node a → InRange z e × (e ≡ z.first + a)
  kind-node a = by_kind (λ x. x ≡ Node a → InRange z e × (e ≡ z.first + a)) at
    where
      at : (x : Entry) → Sorted z n e x → x ≡ Node a → InRange z e × (e ≡ z.first + a)
      at x (link l) h = let q : ◌≡◌ {A = ℕ} 0 1 = cc in absurd (omega arith)
      at x (processor l m) h = let q : e - z.first ≡ a = cc in let i = m.0 in (m, omega arith)
      at x (none l m k) h = let q : ◌≡◌ {A = ℕ} 0 1 = cc in absurd (omega arith)
      at x (bad l m k) h = let q : ◌≡◌ {A = ℕ} 0 1 = cc in absurd (omega arith)

  -- 01, refusal 2: none of the three kinds
  pub kind-bad : (kind z n e ≡ Bad) ↔ ((n ≤ e) × ¬ (InRange z e) × ¬ (e ≡ no_link))
  kind-bad = by_kind (λ x. (x ≡ Bad) ↔ ((n ≤ e) × ¬ (InRange z e) × ¬ (e ≡ no_link))) at
    where
      at : (x : Entry) → Sorted z n e x → (x ≡ Bad) ↔ ((n ≤ e) × ¬ (InRange z e) × ¬ (e ≡ no_link))
      at x (link l) = (λ h. let q : ◌≡◌ {A = ℕ} 0 1 = cc in absurd (omega arith), λ h. let k = h.0 in absurd (omega arith))
      at x (processor l m) = (λ h. let q : ◌≡◌ {A = ℕ} 0 1 = cc in absurd (omega arith), λ h. absurd (h.1 m))
      at x (none l m k) = (λ h. let q : ◌≡◌ {A = ℕ} 0 1 = cc in absurd (omega arith), λ h. absurd (h.2 k))
      at x (bad l m k) = (λ h. (l, m, k), λ h. refl)

-- ---- the table as a network

pub leads-switch : (x : Entry) (s : ℕ) → leads x ≡ switch s → x ≡ Switch s
unfolding leads
leads-switch (Switch u) s h = ap Switch (cc)
leads-switch (Node a) s h = let q : ◌≡◌ {A = ℕ} 0 1 = cc in absurd (omega arith)
leads-switch Nothing s h = let q : ◌≡◌ {A = ℕ} 0 1 = cc in absurd (omega arith)
leads-switch Bad s h = let q : ◌≡◌ {A = ℕ} 0 1 = cc in absurd (omega arith)

pub leads-node : (x : Entry) (a : ℕ) → leads x ≡ node a → x ≡ Node a
unfolding leads
leads-node (Switch u) a h = let q : ◌≡◌ {A = ℕ} 0 1 = cc in absurd (omega arith)
leads-node (Node b) a h = ap Node (cc)
leads-node Nothing a h = let q : ◌≡◌ {A = ℕ} 0 1 = cc in absurd (omega arith)
leads-node Bad a h = let q : ◌≡◌ {A = ℕ} 0 1 = cc in absurd (omega arith)

-- the entry of a port of a switch that there is stands in the table
pub port-inside : (t : List ℕ) (s p : ℕ) → s < switches t → p < 8 → 8 * s + p < length t
unfolding switches
port-inside t s p l m = omega arith

module _ (z : Sizes) (t : List ℕ) where
  -- a port of a switch that there is leads where its entry says, and any other port nowhere
  pub far-inside : (s p : ℕ) → s < switches t → p < 8 → far_of z t s p ≡ leads (kind_at z t (8 * s + p))
  unfolding far_of
  far-inside s p l m = at (ltb s (switches t) && ltb p 8) (and_i (ltb s (switches t)) (ltb p 8) (lt→ltb s (switches t) l) (lt→ltb p 8 m))
    where
      at : (b : Bool) → T b → cond b (leads (kind_at z t (8 * s + p))) nothing ≡ leads (kind_at z t (8 * s + p))
      at true h = refl
      at false h = absurd h

  pub far-somewhere : (s p : ℕ) → ¬ (far_of z t s p ≡ nothing) → (s < switches t) × (p < 8)
  unfolding far_of
  far-somewhere s p = at (ltb s (switches t) && ltb p 8) refl
    where
      at : (b : Bool) → (ltb s (switches t) && ltb p 8) ≡ b → ¬ (cond b (leads (kind_at z t (8 * s + p))) nothing ≡ nothing) → (s < switches t) × (p < 8)
      at true e h = let i = T_and (ltb s (switches t)) (ltb p 8) (T_true e) in (ltb→lt s (switches t) i.0, ltb→lt p 8 i.1)
      at false e h = absurd (h refl)

  -- the entry at index i is what port i % 8 of switch i / 8 leads to
  pub far-entry : (i : ℕ) → i < 8 * switches t → far_of z t (i / 8) (i % 8) ≡ leads (kind_at z t i)
  far-entry i l =
      let e : 8 * (i / 8) + i % 8 ≡ i = omega arith in
      far-inside (i / 8) (i % 8) (omega arith) (omega arith) ∙ ap (λ (j : ℕ). leads (kind_at z t j)) e

  not-nothing : {s p : ℕ} {x : Far} → far_of z t s p ≡ x → ¬ (x ≡ nothing) → (s < switches t) × (p < 8)
  not-nothing {s} {p} e h = far-somewhere s p (λ k. h (sym e ∙ k))

  pub far_of-wired : Wired (far_of z t) (switches t)
  unfolding kind_at
  far_of-wired = record {
    inside = far-somewhere;
    link = λ s p u h.
        let i = not-nothing h (λ k. let q : ◌≡◌ {A = ℕ} 0 1 = cc in omega arith) in
        let k = kind-switch z (switches t) (get_or t (8 * s + p) no_link) u (leads-switch (kind_at z t (8 * s + p)) u (sym (far-inside s p i.0 i.1) ∙ h)) in
        let l = k.0 in let m = k.1 in omega arith;
  }

  -- ---- the faults

  pub in-length : T (bad_length z t) ↔ WrongLength z t
  unfolding bad_length
  in-length = (
    λ h. ⊎_elim (λ i. inl (eqb→eq (length t) 0 i))
        (λ i. inr (⊎_elim (λ j. inl (ltb→lt (8 * z.most) (length t) j)) (λ j. inr (λ e. T_not (eqb (length t % 8) 0) j (eq-T (length t % 8) 0 e))) (T-or (ltb (8 * z.most) (length t)) (not (eqb (length t % 8) 0)) i)))
        (T-or (eqb (length t) 0) (ltb (8 * z.most) (length t) || not (eqb (length t % 8) 0)) h),
    λ h. ⊎_elim (λ e. or_l (eqb (length t) 0) (ltb (8 * z.most) (length t) || not (eqb (length t % 8) 0)) (eq-T (length t) 0 e))
        (λ i. or_r (eqb (length t) 0) (ltb (8 * z.most) (length t) || not (eqb (length t % 8) 0)) (⊎_elim
        (λ l. or_l (ltb (8 * z.most) (length t)) (not (eqb (length t % 8) 0)) (lt→ltb (8 * z.most) (length t) l))
        (λ l. or_r (ltb (8 * z.most) (length t)) (not (eqb (length t % 8) 0)) (not_T (eqb (length t % 8) 0) (λ e. l (eqb→eq (length t % 8) 0 e)))) i)) h,
  )

  is-bad : (x : Entry) → T (is_bad x) ↔ (x ≡ Bad)
  unfolding is_bad
  is-bad (Switch s) = (λ h. absurd h, λ h. let q : ◌≡◌ {A = ℕ} 0 1 = cc in absurd (omega arith))
  is-bad (Node a) = (λ h. absurd h, λ h. let q : ◌≡◌ {A = ℕ} 0 1 = cc in absurd (omega arith))
  is-bad Nothing = (λ h. absurd h, λ h. let q : ◌≡◌ {A = ℕ} 0 1 = cc in absurd (omega arith))
  is-bad Bad = (λ h. refl, λ h. tt)

  pub in-bad : (i : ℕ) → ((i < length t) × T (bad_at z t i)) ↔ BadAt z t i
  unfolding bad_at
  in-bad i = (λ h. record { inside = h.0; bad = (is-bad (kind_at z t i)).0 h.1 }, λ h. (h.inside, (is-bad (kind_at z t i)).1 h.bad))

  -- 01: "N is 1 to 64", eight entries for each
  pub right-length : (n : ℕ) → zero < n → n ≤ z.most → length t ≡ 8 * n → ¬ (WrongLength z t)
  right-length n p l e h = ⊎_elim (λ i. omega arith) (λ i. ⊎_elim (λ j. omega arith) (λ j. j (omega arith)) i) h

  -- what a sound table's length says
  pub sound-length : Sound z t → (1 ≤ switches t) × (switches t ≤ z.most) × (length t ≡ 8 * switches t)
  unfolding switches
  sound-length h =
      let e : length t % 8 ≡ 0 = even (ℕ_discrete (length t % 8) 0) in
      let m : length t ≤ 8 * z.most = not-lt (λ l. h.length-right (inr (inl l))) in
      let p : ¬ (length t ≡ 0) = λ n. h.length-right (inl n) in
      (omega arith, omega arith, omega arith)
    where
      even : Dec (length t % 8 ≡ 0) → length t % 8 ≡ 0
      even (yes e) = e
      even (no e) = absurd (h.length-right (inr (inr e)))
