-- Following lists of ports, and shortest lists: a tail of one is one, and what a first port that starts one adds.
-- Assumes nothing.
use Prim.Native.Nat.{ℕ, suc, ◌<◌, ◌≤◌, suc-le-suc, zero-le}
use native.Mathlib.Nat.{le_trans, le_of_eq, le_antisymm, suc_inj, le_of_suc-le-suc}
use native.Mathlib.Omega.{arith}
use mathlib.Core.Path.{◌≡◌, refl, sym, ap, ◌∙◌, subst}
use mathlib.Core.Logic.{◌⊎◌, inl, inr, ⊎_elim, ◌↔◌}
use mathlib.Core.List.{List, [], ◌∷◌, ◌++◌}
use lib.ListN.{length}
use Rattle.rules.specs.Net.{Far, switch, node, nothing, follow, Shortest, Distance, Onward}

module _ (far : ℕ → ℕ → Far) where
  -- nothing leads on
  pub nothing-stays : (qs : List ℕ) → follow far qs nothing ≡ nothing
  unfolding follow
  nothing-stays [] = refl
  nothing-stays (q ∷ qs) = refl

  pub follow-append : (ps qs : List ℕ) (x : Far) → follow far (ps ++ qs) x ≡ follow far qs (follow far ps x)
  unfolding follow
  follow-append [] qs x = refl
  follow-append (p ∷ ps) qs (switch s) = follow-append ps qs (far s p)
  follow-append (p ∷ ps) qs (node n) = sym (nothing-stays qs)
  follow-append (p ∷ ps) [] nothing = refl
  follow-append (p ∷ ps) (q ∷ qs) nothing = refl

  -- one list is followed from a processor, the empty one, and none from nothing
  pub from-node : (qs : List ℕ) (n d : ℕ) → follow far qs (node n) ≡ node d → (qs ≡ []) × (n ≡ d)
  unfolding follow
  from-node [] n d e = (refl, cc)
  from-node (q ∷ qs) n d e = let z : ◌≡◌ {A = ℕ} 0 1 = cc in absurd (omega arith)

  pub from_nothing : (qs : List ℕ) (d : ℕ) → follow far qs nothing ≡ node d → ⊥
  unfolding follow
  from_nothing [] d e = let z : ◌≡◌ {A = ℕ} 0 1 = cc in omega arith
  from_nothing (q ∷ qs) d e = let z : ◌≡◌ {A = ℕ} 0 1 = cc in omega arith

  -- no list leads from a processor, or from nothing, to a switch
  pub node-no-switch : (qs : List ℕ) (n s : ℕ) → follow far qs (node n) ≡ switch s → ⊥
  unfolding follow
  node-no-switch [] n s e = let z : ◌≡◌ {A = ℕ} 0 1 = cc in omega arith
  node-no-switch (q ∷ qs) n s e = let z : ◌≡◌ {A = ℕ} 0 1 = cc in omega arith

  pub nothing-no-switch : (qs : List ℕ) (s : ℕ) → follow far qs nothing ≡ switch s → ⊥
  unfolding follow
  nothing-no-switch [] s e = let z : ◌≡◌ {A = ℕ} 0 1 = cc in omega arith
  nothing-no-switch (q ∷ qs) s e = let z : ◌≡◌ {A = ℕ} 0 1 = cc in omega arith

  -- ---- distances

  pub distance-one : {a d m n : ℕ} → Distance far a d m → Distance far a d n → m ≡ n
  distance-one h k = sym h.long ∙ le_antisymm (h.short.least k.way k.short.leads) (k.short.least h.way h.short.leads) ∙ k.long

  pub of-shortest : {a d : ℕ} {ps : List ℕ} → Shortest far (switch a) (node d) ps → Distance far a d (length ps)
  of-shortest {ps = ps} h = record { way = ps; short = h; long = refl }

  -- 01's arithmetic wording: port p "links to a switch whose distance to the destination is one less"
  pub record Nearer (d s p : ℕ) : Type 0 where
    pub to : ℕ
    pub n : ℕ
    pub link : far s p ≡ switch to
    pub one_less : Distance far to d n
    pub here : Distance far s d (suc n)

  -- ---- towards node d
  module _ {d : ℕ} where
    pub step : {s p : ℕ} {x : Far} (qs : List ℕ) → far s p ≡ x → follow far qs x ≡ node d → follow far (p ∷ qs) (switch s) ≡ node d
    unfolding follow
    step qs e h = ap (follow far qs) e ∙ h

    pub unstep : {s p : ℕ} {x : Far} (qs : List ℕ) → far s p ≡ x → follow far (p ∷ qs) (switch s) ≡ node d → follow far qs x ≡ node d
    unfolding follow
    unstep qs e h = ap (follow far qs) (sym e) ∙ h

    -- what follows the first port of a shortest list is one from where that port leads
    pub shortest-tail : {s p t : ℕ} {qs : List ℕ} → far s p ≡ switch t → Shortest far (switch s) (node d) (p ∷ qs) → Shortest far (switch t) (node d) qs
    shortest-tail {p = p} {qs = qs} e h = record {
      leads = unstep qs e h.leads;
      least = λ rs k. le_of_suc-le-suc (h.least (p ∷ rs) (step rs e k));
    }

    -- a port that starts a shortest way onward may go before any shortest list from where it leads
    pub shortest-cons : {s p t : ℕ} {qs : List ℕ} → Onward far d s p → far s p ≡ switch t → Shortest far (switch t) (node d) qs → Shortest far (switch s) (node d) (p ∷ qs)
    shortest-cons {qs = qs} o e h = record {
      leads = step qs e h.leads;
      least = λ rs k. le_trans (suc-le-suc (h.least o.rest (unstep o.rest e o.short.leads))) (o.short.least rs k);
    }

    -- where it leads to a processor, that is d itself, and the list ends there; it never leads to nothing
    pub onward-node : {s p n : ℕ} → Onward far d s p → far s p ≡ node n → Shortest far (switch s) (node d) (p ∷ [])
    onward-node {s} {p} {n} o e =
        subst (λ (rs : List ℕ). Shortest far (switch s) (node d) (p ∷ rs)) (from-node o.rest n d (unstep o.rest e o.short.leads)).0 o.short

    pub onward-nothing : {s p : ℕ} → Onward far d s p → far s p ≡ nothing → ⊥
    onward-nothing o e = from_nothing o.rest d (unstep o.rest e o.short.leads)

    -- one nearer
    pub onward_near : {s p t n : ℕ} → Onward far d s p → far s p ≡ switch t → Distance far s d (suc n) → Distance far t d n
    onward_near o e h = record { way = o.rest; short = shortest-tail e o.short; long = suc_inj (distance-one (of-shortest o.short) h) }

    pub never-zero : {s : ℕ} → Distance far s d 0 → ⊥
    unfolding follow
    never-zero {s} h = go h.way h.short.leads h.long
      where
        go : (ps : List ℕ) → follow far ps (switch s) ≡ node d → length ps ≡ 0 → ⊥
        go [] e l = let z : ◌≡◌ {A = ℕ} 0 1 = cc in omega arith
        go (p ∷ ps) e l = omega arith

    -- 01's words: it links to a switch whose distance is one less; at the destination's switch it is the destination's own port
    pub onward-link : {s p t n : ℕ} → far s p ≡ switch t → Distance far t d n → Distance far s d (suc n) → Onward far d s p
    onward-link {p = p} e h k = record {
      rest = h.way;
      short = record {
        leads = step h.way e h.short.leads;
        least = λ qs l. le_trans (le_of_eq (ap suc h.long ∙ sym k.long)) (k.short.least qs l);
      };
    }

    pub onward-own : {s p : ℕ} → far s p ≡ node d → Onward far d s p
    unfolding follow
    onward-own {s} e = record { rest = []; short = record { leads = e; least = least } }
      where
        least : (qs : List ℕ) → follow far qs (switch s) ≡ node d → 1 ≤ length qs
        least [] l = let z : ◌≡◌ {A = ℕ} 0 1 = cc in absurd (omega arith)
        least (q ∷ qs) l = suc-le-suc zero-le

    -- a port starts a shortest way onward exactly when it leads one nearer, or is the destination's own
    pub onward-is : (s p : ℕ) → Onward far d s p ↔ (Nearer d s p ⊎ (far s p ≡ node d))
    onward-is s p = (λ o. at o (far s p) refl, ⊎_elim (λ i. onward-link i.link i.one_less i.here) onward-own)
      where
        at : Onward far d s p → (x : Far) → far s p ≡ x → Nearer d s p ⊎ (far s p ≡ node d)
        at o (switch t) e = let h = of-shortest o.short in inl (record { to = t; n = length o.rest; link = e; one_less = onward_near o e h; here = h })
        at o (node n) e = inr (e ∙ ap node (from-node o.rest n d (unstep o.rest e o.short.leads)).1)
        at o nothing e = absurd (onward-nothing o e)

    -- 01: "A switch may name itself; this never lies on a shortest way."
    pub self-never : (s p : ℕ) → far s p ≡ switch s → ¬ (Onward far d s p)
    self-never s p e o = ⊎_elim near (λ i. let z : ◌≡◌ {A = ℕ} 0 1 = cc in omega arith) ((onward-is s p).0 o)
      where
        near : Nearer d s p → ⊥
        near i = let x : i.to ≡ s = cc in let y = distance-one (subst (λ (u : ℕ). Distance far u d i.n) x i.one_less) i.here in omega arith

    -- "At the destination's switch that is the destination's own port alone."
    pub onward-alone : (s p q : ℕ) → far s q ≡ node d → Onward far d s p ↔ (far s p ≡ node d)
    onward-alone s p q e = (λ o. ⊎_elim near (λ i. i) ((onward-is s p).0 o), onward-own)
      where
        near : Nearer d s p → far s p ≡ node d
        near i = let l = distance-one i.here (of-shortest (onward-node (onward-own e) e)) in absurd (never-zero (subst (Distance far i.to d) (suc_inj l) i.one_less))

    -- ---- for a search that goes backwards from d, whatever it keeps

    pub distance-own : {s p : ℕ} → far s p ≡ node d → Distance far s d 1
    distance-own e = of-shortest (onward-node (onward-own e) e)

    -- a switch that no list of n ports brings to d, with a link to one at distance n
    pub distance-suc : {s p t n : ℕ} → far s p ≡ switch t → Distance far t d n → ((qs : List ℕ) → follow far qs (switch s) ≡ node d → n < length qs) → Distance far s d (suc n)
    distance-suc {p = p} e h g = record {
      way = p ∷ h.way;
      short = record { leads = step h.way e h.short.leads; least = λ qs l. le_trans (suc-le-suc (le_of_eq h.long)) (g qs l) };
      long = ap suc h.long;
    }

    -- A set that holds every switch of d's ports and every switch with a link into it holds all from which a list leads to d: whatever is
    -- outside such a set reaches d by no list.
    pub closed : (R : ℕ → Type 0) → ((s p : ℕ) → far s p ≡ node d → R s) → ((s p t : ℕ) → far s p ≡ switch t → R t → R s)
        → (ps : List ℕ) (s : ℕ) → follow far ps (switch s) ≡ node d → R s
    unfolding follow
    closed R own link [] s e = let z : ◌≡◌ {A = ℕ} 0 1 = cc in absurd (omega arith)
    closed R own link (p ∷ ps) s e = at (far s p) refl (λ t. closed R own link ps t)
      where
        at : (x : Far) → far s p ≡ x → ((t : ℕ) → follow far ps (switch t) ≡ node d → R t) → R s
        at (switch t) f ih = link s p t f (ih t (ap (follow far ps) (sym f) ∙ e))
        at (node n) f ih = own s p (f ∙ ap node (from-node ps n d (ap (follow far ps) (sym f) ∙ e)).1)
        at nothing f ih = absurd (from_nothing ps d (ap (follow far ps) (sym f) ∙ e))
