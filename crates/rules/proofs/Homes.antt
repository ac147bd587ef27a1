-- Where a processor stands: where refusal 3 does not apply, at one port, so at one switch, and `home` finds it. Two ports with the same
-- processor are two indices with the same entry, and the higher of them is a fault. Assumes nothing.
use Prim.Native.Nat.{ℕ, zero, ◌+◌, ◌*◌, ◌<◌, ◌≤◌}
use native.Mathlib.Nat.{eq-or-lt_of_le}
use native.Mathlib.Decide.{dec_le}
use native.Mathlib.Omega.{arith}
use mathlib.Core.Path.{◌≡◌, refl, sym, ap, ◌∙◌}
use mathlib.Core.Logic.{◌↔◌, ⊎_elim}
use mathlib.Core.List.{List}
use lib.Dec.{T, eqb→eq}
use lib.ListN.{length}
use Rattle.rules.specs.declared.Entry.{Entry}
use Rattle.rules.specs.declared.Entry.TheVariants.{Switch, Node, Nothing, Bad}
use Rattle.rules.specs.Sets.{least}
use Rattle.rules.specs.Net.{Far, switch, node, nothing}
use Rattle.rules.specs.Table.{Sizes, switches, kind_at, far_of, Again, Stands, Attached}
use Rattle.rules.specs.RunTable.{is_entry_of, same_node, again, is_node, stands, attached, home}
use Rattle.rules.proofs.SetLaws.{eq-T, any-yes, any_some, least-is, least_under}
use Rattle.rules.proofs.Tables.{leads-node, far-inside, far-somewhere}

-- ---- the tests

pub is-entry : (a : ℕ) (x : Entry) → T (is_entry_of a x) ↔ (x ≡ Node a)
unfolding is_entry_of
is-entry a (Switch s) = (λ h. absurd h, λ h. let q : ◌≡◌ {A = ℕ} 0 1 = cc in absurd (omega arith))
is-entry a (Node b) = (λ h. ap Node (eqb→eq b a h), λ h. eq-T b a cc)
is-entry a Nothing = (λ h. absurd h, λ h. let q : ◌≡◌ {A = ℕ} 0 1 = cc in absurd (omega arith))
is-entry a Bad = (λ h. absurd h, λ h. let q : ◌≡◌ {A = ℕ} 0 1 = cc in absurd (omega arith))

is-node : (a : ℕ) (x : Far) → T (is_node a x) ↔ (x ≡ node a)
unfolding is_node
is-node a (switch s) = (λ h. absurd h, λ h. let q : ◌≡◌ {A = ℕ} 0 1 = cc in absurd (omega arith))
is-node a (node n) = (λ h. ap node (eqb→eq n a h), λ h. eq-T n a cc)
is-node a nothing = (λ h. absurd h, λ h. let q : ◌≡◌ {A = ℕ} 0 1 = cc in absurd (omega arith))

pub same-node : (x y : Entry) → T (same_node x y) → (a : ℕ) × (x ≡ Node a) × (y ≡ Node a)
unfolding same_node
same-node x (Switch s) h = absurd h
same-node x (Node a) h = (a, (is-entry a x).0 h, refl)
same-node x Nothing h = absurd h
same-node x Bad h = absurd h

pub node-same : (x y : Entry) (a : ℕ) → x ≡ Node a → y ≡ Node a → T (same_node x y)
unfolding same_node
node-same x (Switch s) a h k = let q : ◌≡◌ {A = ℕ} 0 1 = cc in absurd (omega arith)
node-same x (Node b) a h k = (is-entry b x).1 cc
node-same x Nothing a h k = let q : ◌≡◌ {A = ℕ} 0 1 = cc in absurd (omega arith)
node-same x Bad a h k = let q : ◌≡◌ {A = ℕ} 0 1 = cc in absurd (omega arith)

module _ (z : Sizes) (t : List ℕ) where
  pub in-again : (i : ℕ) → ((i < length t) × T (again z t i)) ↔ Again z t i
  unfolding again
  in-again i = (
    λ h. let j = any_some i (λ j. same_node (kind_at z t j) (kind_at z t i)) h.1 in
        let k = same-node (kind_at z t j.0) (kind_at z t i) j.2 in
        record { inside = h.0; processor = k.0; here = k.2; lower = j.0; below = j.1; there = k.1 },
    λ h. (h.inside, any-yes i (λ j. same_node (kind_at z t j) (kind_at z t i)) h.lower h.below (node-same (kind_at z t h.lower) (kind_at z t i) h.processor h.there h.here)),
  )

  -- 01: "Place 0 can be a true place under 2 and 12": under 3 it cannot
  pub again-past : (i : ℕ) → Again z t i → zero < i
  again-past i h = let l = h.below in omega arith

  -- ---- one port

  -- what stands at a port that leads to a processor
  pub record Port (a s p : ℕ) : Type 0 where
    pub switch-in : s < switches t
    pub port-in : p < 8
    pub inside : 8 * s + p < length t
    pub entry : kind_at z t (8 * s + p) ≡ Node a

  pub port-of : (a s p : ℕ) → far_of z t s p ≡ node a → Port a s p
  unfolding switches
  port-of a s p h =
      let i = far-somewhere z t s p (λ e. let q : ◌≡◌ {A = ℕ} 0 1 = cc in omega arith) in
      let l = i.0 in let m = i.1 in
      record { switch-in = l; port-in = m; inside = omega arith; entry = leads-node (kind_at z t (8 * s + p)) a (sym (far-inside z t s p l m) ∙ h) }

  module _ (single : (i : ℕ) → ¬ (Again z t i)) where
    repeated : (a s u p q : ℕ) → Port a s p → Port a u q → 8 * s + p < 8 * u + q → ⊥
    repeated a s u p q x y l =
        single (8 * u + q) (record { inside = y.inside; processor = a; here = y.entry; lower = 8 * s + p; below = l; there = x.entry })

    pub port-one : (a s u p q : ℕ) → far_of z t s p ≡ node a → far_of z t u q ≡ node a → (s ≡ u) × (p ≡ q)
    port-one a s u p q h k = go (dec_le (8 * u + q) (8 * s + p))
      where
        x : Port a s p
        x = port-of a s p h

        y : Port a u q
        y = port-of a u q k

        same : 8 * s + p ≡ 8 * u + q → (s ≡ u) × (p ≡ q)
        same e = let i = x.port-in in let j = y.port-in in (omega arith, omega arith)

        go : Dec (8 * u + q ≤ 8 * s + p) → (s ≡ u) × (p ≡ q)
        go (yes l) = ⊎_elim (λ e. same (sym e)) (λ m. absurd (repeated a u s q p y x m)) (eq-or-lt_of_le l)
        go (no l) = absurd (repeated a s u p q x y (omega arith))

    pub home-one : (a s u : ℕ) → Stands z t a s → Stands z t a u → s ≡ u
    home-one a s u h k = (port-one a s u h.port k.port h.there k.there).0

  -- ---- the switch found

  pub in-stands : (a s : ℕ) → T (stands z t a s) ↔ Stands z t a s
  unfolding stands
  in-stands a s = (
    λ h. let j = any_some 8 (λ p. is_node a (far_of z t s p)) h in record { port = j.0; there = (is-node a (far_of z t s j.0)).0 j.2 },
    λ h. any-yes 8 (λ p. is_node a (far_of z t s p)) h.port (port-of a s h.port h.there).port-in ((is-node a (far_of z t s h.port)).1 h.there),
  )

  pub in-attached : (a : ℕ) → T (attached z t a) ↔ Attached z t a
  unfolding attached
  in-attached a = (
    λ h. let j = any_some (switches t) (stands z t a) h in (j.0, (in-stands a j.0).0 j.2),
    λ h. any-yes (switches t) (stands z t a) h.0 (port-of a h.0 h.1.port h.1.there).switch-in ((in-stands a h.0).1 h.1),
  )

  pub home-is : (a : ℕ) → Attached z t a → Stands z t a (home z t a)
  unfolding home
  home-is a h =
      let l = least-is (switches t) (stands z t a) in
      let m = least_under l ((in-stands a h.0).1 h.1) in
      let k = (port-of a h.0 h.1.port h.1.there).switch-in in
      (in-stands a (least (switches t) (stands z t a))).0 (l.hit (omega arith))
