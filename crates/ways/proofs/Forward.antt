-- What the depths of a search forward from switch a say of distances and masks. A list to node d ends with a port of a switch that has d,
-- so d is as far as the least deep of these; a switch on a shortest way is as deep as it is far, so each port onward goes one deeper.
-- Assumes nothing.
use Prim.Native.Nat.{ℕ, zero, suc, ◌+◌, ◌≤◌, ◌<◌}
use native.Mathlib.Omega.{arith}
use mathlib.Core.Path.{◌≡◌, refl, sym, ap, ◌∙◌, subst}
use mathlib.Core.Logic.{◌⊎◌, inl, inr, ⊎_elim, ◌↔◌}
use mathlib.Core.Bool.{Bool, ◌&&◌}
use mathlib.Core.List.{List, [], ◌∷◌, ◌++◌}
use lib.Dec.{T, eqb, ltb, eqb→eq, ltb→lt, lt→ltb}
use lib.ListN.{length, get_or, length-append}
use Rattle.rules.specs.Sets.{has}
use Rattle.rules.specs.Net.{Far, switch, node, nothing, follow, Shortest, Distance, Unreachable, OnWay, InMask, Wired}
use Rattle.rules.specs.Run.{dist_to, mask_of}
use Rattle.rules.proofs.SetLaws.{T_and, and_i, same-T, eq-T, in-set_of, has-nothing, same, member}
use Rattle.rules.proofs.Ways.{follow-append, from-node, from_nothing, distance-one, of-shortest, Nearer, onward-is, onward-link, onward-own, never-zero, distance-own, distance-suc, node-no-switch, nothing-no-switch}
use Rattle.rules.proofs.Layers.{somewhere, dist-is, dist-far}
use Rattle.rules.proofs.Masks.{via-onway, onway-via, via-next, in-mask}
use Rattle.ways.specs.Search.{Depths}
use Rattle.ways.specs.Onward.{ahead, onward_of}

module _ (far : ℕ → ℕ → Far) where
  -- ---- lists of ports

  -- a list that leads to node d ends with a port of a switch that has d
  pub last-port : (ps : List ℕ) (s d : ℕ) → follow far ps (switch s) ≡ node d
      → (qs : List ℕ) × (u : ℕ) × (q : ℕ) × (ps ≡ qs ++ (q ∷ [])) × (follow far qs (switch s) ≡ switch u) × (far u q ≡ node d)
  unfolding follow
  last-port [] s d e = let z : ◌≡◌ {A = ℕ} 0 1 = cc in absurd (omega arith)
  last-port (p ∷ ps) s d e = at (far s p) refl (λ t. last-port ps t d)
    where
      Last : List ℕ → ℕ → Type 0
      Last ps s = (qs : List ℕ) × (u : ℕ) × (q : ℕ) × (ps ≡ qs ++ (q ∷ [])) × (follow far qs (switch s) ≡ switch u) × (far u q ≡ node d)

      at : (x : Far) → far s p ≡ x → ((t : ℕ) → follow far ps (switch t) ≡ node d → Last ps t) → Last (p ∷ ps) s
      at (switch t) f ih =
          let r = ih t (ap (follow far ps) (sym f) ∙ e) in
          (p ∷ r.0, r.1, r.2, ap (p ∷◌) r.3, ap (follow far r.0) f ∙ r.4, r.5)
      at (node n) f ih =
          let r = from-node far ps n d (ap (follow far ps) (sym f) ∙ e) in
          ([], s, p, ap (p ∷◌) r.0, refl, f ∙ ap node r.1)
      at nothing f ih = absurd (from_nothing far ps d (ap (follow far ps) (sym f) ∙ e))

  -- ---- from links to depths

  Closed : (ℕ → ℕ) → Type 0
  Closed depth = (s p v : ℕ) → zero < depth s → far s p ≡ switch v → (zero < depth v) × (depth v ≤ suc (depth s))

  closed-near : (depth : ℕ → ℕ) → Closed depth → (ps : List ℕ) (u s : ℕ) → zero < depth u → follow far ps (switch u) ≡ switch s
      → (zero < depth s) × (depth s ≤ depth u + length ps)
  unfolding follow Closed
  closed-near depth c [] u s h e = let z : u ≡ s = cc in let y = ap depth z in (omega arith, omega arith)
  closed-near depth c (p ∷ ps) u s h e = at (far u p) refl (λ v. closed-near depth c ps v s)
    where
      at : (x : Far) → far u p ≡ x → ((v : ℕ) → zero < depth v → follow far ps (switch v) ≡ switch s → (zero < depth s) × (depth s ≤ depth v + length ps))
          → (zero < depth s) × (depth s ≤ depth u + length (p ∷ ps))
      at (switch v) f ih =
          let l = c u p v h f in let r = ih v l.0 (ap (follow far ps) (sym f) ∙ e) in let i = l.1 in let j = r.1 in (r.0, omega arith)
      at (node n) f ih = absurd (node-no-switch far ps n s (ap (follow far ps) (sym f) ∙ e))
      at nothing f ih = absurd (nothing-no-switch far ps s (ap (follow far ps) (sym f) ∙ e))

  pub depths-closed : (a : ℕ) (depth : ℕ → ℕ) → depth a ≡ 1
      → ((s k : ℕ) → depth s ≡ suc k → (ps : List ℕ) × (follow far ps (switch a) ≡ switch s) × (length ps ≡ k))
      → ((s p v : ℕ) → zero < depth s → far s p ≡ switch v → (zero < depth v) × (depth v ≤ suc (depth s)))
      → Depths far a depth
  unfolding Closed
  depths-closed a depth one led c = record {
    led = led;
    near = λ ps s e. let r = closed-near depth c ps a s (omega arith) e in let l = r.1 in (r.0, omega arith);
  }

  -- ---- from depths to distances
  module _ {a : ℕ} {depth : ℕ → ℕ} (h : Depths far a depth) where
    pub depth-shortest : (s k : ℕ) → depth s ≡ suc k → (ps : List ℕ) × Shortest far (switch a) (switch s) ps × (length ps ≡ k)
    depth-shortest s k e =
        let r = h.led s k e in let l = r.2 in
        (r.0, record { leads = r.1; least = λ qs f. let m = (h.near qs s f).1 in omega arith }, l)

    pub shortest-depth : {s : ℕ} {ps : List ℕ} → Shortest far (switch a) (switch s) ps → depth s ≡ suc (length ps)
    shortest-depth {s} {ps} w = at (depth s) refl
      where
        at : (n : ℕ) → depth s ≡ n → depth s ≡ suc (length ps)
        at zero e = let l = (h.near ps s w.leads).0 in omega arith
        at (suc k) e =
            let r = h.led s k e in let i = r.2 in let l = w.least r.0 r.1 in let m = (h.near ps s w.leads).1 in omega arith

    pub depth-distance : (d s p n : ℕ) → far s p ≡ node d → depth s ≡ n → zero < n → ((u q : ℕ) → far u q ≡ node d → zero < depth u → n ≤ depth u) → Distance far a d n
    unfolding follow
    depth-distance d s p zero e i pos first = absurd (omega arith)
    depth-distance d s p (suc k) e i pos first =
        let r = depth-shortest s k i in
        let l = r.2 in
        let m : length (r.0 ++ (p ∷ [])) ≡ suc k = let j = length-append r.0 (p ∷ []) in omega arith in
        record {
          way = r.0 ++ (p ∷ []);
          short = record {
            leads = follow-append far r.0 (p ∷ []) (switch a) ∙ ap (follow far (p ∷ [])) r.1.leads ∙ e;
            least = λ qs f.
                let t = last-port qs a d f in
                let o = h.near t.0 t.1 t.4 in
                let b = o.1 in
                let c = first t.1 t.2 t.5 o.0 in
                let j = ap length t.3 ∙ length-append t.0 (t.2 ∷ []) in omega arith;
          };
          long = m;
        }

    pub depth-unreachable : (d : ℕ) → ((u q : ℕ) → far u q ≡ node d → depth u ≡ 0) → Unreachable far a d
    depth-unreachable d c ps e =
        let t = last-port ps a d e in let l = (h.near t.0 t.1 t.4).0 in let z = c t.1 t.2 t.5 in omega arith

  -- a switch on a shortest way has a port onward
  pub onway-some : {a d s : ℕ} → OnWay far a d s ↔ ((p : ℕ) × InMask far a d s p)
  unfolding follow
  onway-some {a} {d} {s} = (λ o. at o o.onward.way o.onward.short, λ i. i.1.way)
    where
      at : OnWay far a d s → (ps : List ℕ) → Shortest far (switch s) (node d) ps → (p : ℕ) × InMask far a d s p
      at o [] w = absurd (never-zero far (of-shortest far w))
      at o (p ∷ ps) w = (p, record { way = o; port = record { rest = ps; short = w } })

  -- ---- from depths to masks

  -- x, where a port of a switch at depth k leads, is on a shortest way: node d itself, or a switch one deeper
  abbrev Ahead : (a d n : ℕ) (depth : ℕ → ℕ) (k : ℕ) (x : Far) → Type 0
  Ahead a d n depth k x = ((k ≡ n) × (x ≡ node d)) ⊎ ((v : ℕ) × (x ≡ switch v) × (depth v ≡ suc k) × OnWay far a d v)

  module _ {a d n : ℕ} {depth : ℕ → ℕ} (dist : Distance far a d n) (h : Depths far a depth) where
    -- the depth of a switch on a shortest way, and its distance to d
    pub onway-sum : {s m : ℕ} → OnWay far a d s → Distance far s d m → depth s + m ≡ suc n
    onway-sum o k =
        let e = shortest-depth h o.reached in
        let f = distance-one far o.onward k in
        let g = distance-one far o.whole dist in
        let i = o.sum in omega arith

    pub onway-depth : {s : ℕ} → OnWay far a d s → (zero < depth s) × (depth s ≤ n)
    onway-depth {s} o = ((h.near o.before s o.reached.leads).0, at o.m o.onward)
      where
        at : (m : ℕ) → Distance far s d m → depth s ≤ n
        at zero k = absurd (never-zero far k)
        at (suc m) k = let e = onway-sum o k in omega arith

    -- back from the sum to the way
    depth-onway : (s m : ℕ) → zero < depth s → Distance far s d m → depth s + m ≡ suc n → OnWay far a d s
    depth-onway s m pos k e = at (depth s) refl
      where
        at : (l : ℕ) → depth s ≡ l → OnWay far a d s
        at zero f = absurd (omega arith)
        at (suc l) f =
            let r = depth-shortest h s l f in let i = r.2 in
            record { before = r.0; m = m; n = n; reached = r.1; onward = k; whole = dist; sum = omega arith }

    -- a link that goes one deeper, onto a shortest way, goes one nearer
    deeper-nearer : (s p v m : ℕ) → zero < depth s → far s p ≡ switch v → depth v ≡ suc (depth s) → depth v + m ≡ suc n → Distance far v d m → Distance far s d (suc m)
    deeper-nearer s p v m pos e f i k = at (depth s) refl
      where
        at : (l : ℕ) → depth s ≡ l → Distance far s d (suc m)
        at zero g = absurd (omega arith)
        at (suc l) g =
            let r = h.led s l g in
            distance-suc far e k (λ qs t.
            let b = dist.short.least (r.0 ++ qs) (follow-append far r.0 qs (switch a) ∙ ap (follow far qs) r.1 ∙ t) in
            let c = length-append r.0 qs in let j = r.2 in let w = dist.long in omega arith)

    pub mask-depth : (s p : ℕ) → zero < depth s
        → InMask far a d s p ↔ (((depth s ≡ n) × (far s p ≡ node d)) ⊎ ((v : ℕ) × (far s p ≡ switch v) × (depth v ≡ suc (depth s)) × OnWay far a d v))
    mask-depth s p pos = (λ i. ⊎_elim (near i) (λ e. inl (own i e, e)) ((onward-is far s p).0 i.port), ⊎_elim (λ x. last x.0 x.1) (λ x. link x.0 x.1 x.2 x.3))
      where
        own : InMask far a d s p → far s p ≡ node d → depth s ≡ n
        own i e = let k = onway-sum i.way (distance-own far e) in omega arith

        near : InMask far a d s p → Nearer far d s p → Ahead a d n depth (depth s) (far s p)
        near i r =
            let o = via-onway far (via-next far (onway-via far i.way) i.port r.link) in
            let e = onway-sum i.way r.here in
            let f = onway-sum o r.one_less in
            inr (r.to, r.link, omega arith, o)

        last : depth s ≡ n → far s p ≡ node d → InMask far a d s p
        last e f = record { way = depth-onway s 1 pos (distance-own far f) (omega arith); port = onward-own far f }

        link : (v : ℕ) → far s p ≡ switch v → depth v ≡ suc (depth s) → OnWay far a d v → InMask far a d s p
        link v e f o =
            let i = onway-sum o o.onward in
            let k = deeper-nearer s p v o.m pos e f i o.onward in
            record { way = depth-onway s (suc o.m) pos k (omega arith); port = onward-link far e o.onward k }

-- ---- the distances that compute
module _ (far : ℕ → ℕ → Far) (size : ℕ) (wired : Wired far size) {a : ℕ} {depth : ℕ → ℕ} (h : Depths far a depth) where
  pub depth-dist_to : (d s p n : ℕ) → far s p ≡ node d → depth s ≡ n → zero < n → ((u q : ℕ) → far u q ≡ node d → zero < depth u → n ≤ depth u) → dist_to far size d a ≡ n
  depth-dist_to d s p n e i pos first = dist-is far size wired d (depth-distance far h d s p n e i pos first)

  pub unreachable-dist_to : (d : ℕ) → ((u q : ℕ) → far u q ≡ node d → depth u ≡ 0) → dist_to far size d a ≡ suc size
  unreachable-dist_to d c = dist-far far size wired d a (depth-unreachable far h d c)

-- ---- the masks that compute

has_some : (p m : ℕ) → T (has p m) → zero < m
has_some p zero t = absurd (subst T (has-nothing p) t)
has_some p (suc m) t = omega arith

module _ (far : ℕ → ℕ → Far) (size : ℕ) (wired : Wired far size) (a d n : ℕ) (dist : Distance far a d n) where
  -- a mask that is not 0 is that of a switch on a shortest way
  pub mask-some : (s : ℕ) → (zero < mask_of far size d a s) ↔ OnWay far a d s
  mask-some s = (
    λ l. let r = member (mask_of far size d a s) l in ((in-mask far size wired d a n dist s r.0).0 r.1).way,
    λ o. let i = (onway-some far).0 o in has_some i.0 (mask_of far size d a s) ((in-mask far size wired d a n dist s i.0).1 i.1),
  )

  pub mask-none : (depth : List ℕ) → Depths far a (λ s. get_or depth s 0) → (s : ℕ) → (get_or depth s 0 ≡ 0) ⊎ (n < get_or depth s 0) → mask_of far size d a s ≡ 0
  mask-none depth h s c = at (mask_of far size d a s) refl
    where
      off : OnWay far a d s → ⊥
      off o = let b = onway-depth far dist h o in let i = b.0 in let j = b.1 in ⊎_elim (λ e. omega arith) (λ l. omega arith) c

      at : (m : ℕ) → mask_of far size d a s ≡ m → mask_of far size d a s ≡ 0
      at zero e = e
      at (suc m) e = absurd (off ((mask-some s).0 (omega arith)))

  module _ (depth masks : List ℕ) (h : Depths far a (λ s. get_or depth s 0)) (s : ℕ) (pos : zero < get_or depth s 0)
      (right : (v : ℕ) → get_or depth v 0 ≡ suc (get_or depth s 0) → get_or masks v 0 ≡ mask_of far size d a v) where
    ahead-is : (x : Far) → T (ahead d (eqb (get_or depth s 0) n) depth masks (get_or depth s 0) x) ↔ Ahead far a d n (λ s. get_or depth s 0) (get_or depth s 0) x
    unfolding ahead
    ahead-is (switch t) = (
      λ i. let b = T_and (eqb (get_or depth t 0) (suc (get_or depth s 0))) (ltb 0 (get_or masks t 0)) i in
          let e = eqb→eq (get_or depth t 0) (suc (get_or depth s 0)) b.0 in
          inr (t, refl, e, (mask-some t).0 (subst (λ (m : ℕ). zero < m) (right t e) (ltb→lt 0 (get_or masks t 0) b.1))),
      ⊎_elim (λ x. let c = x.1 in let z : ◌≡◌ {A = ℕ} 0 1 = cc in absurd (omega arith)) (λ x. back x.0 x.1 x.2 x.3),
    )
      where
        back : (v : ℕ) → switch t ≡ switch v → get_or depth v 0 ≡ suc (get_or depth s 0) → OnWay far a d v → T (eqb (get_or depth t 0) (suc (get_or depth s 0)) && ltb 0 (get_or masks t 0))
        back v c e o =
            let z : v ≡ t = cc in
            let f = subst (λ (x : ℕ). get_or depth x 0 ≡ suc (get_or depth s 0)) z e in
            and_i (eqb (get_or depth t 0) (suc (get_or depth s 0))) (ltb 0 (get_or masks t 0)) (eq-T (get_or depth t 0) (suc (get_or depth s 0)) f)
            (lt→ltb 0 (get_or masks t 0) (subst (λ (m : ℕ). zero < m) (sym (right t f)) ((mask-some t).1 (subst (OnWay far a d) z o))))
    ahead-is (node c) = (
      λ i. let b = T_and (eqb (get_or depth s 0) n) (eqb c d) i in inl (eqb→eq (get_or depth s 0) n b.0, ap node (eqb→eq c d b.1)),
      ⊎_elim (λ x. let e = x.1 in and_i (eqb (get_or depth s 0) n) (eqb c d) (eq-T (get_or depth s 0) n x.0) (eq-T c d cc))
          (λ x. let e = x.1 in let z : ◌≡◌ {A = ℕ} 0 1 = cc in absurd (omega arith)),
    )
    ahead-is nothing = (
      λ i. absurd i,
      ⊎_elim (λ x. let e = x.1 in let z : ◌≡◌ {A = ℕ} 0 1 = cc in absurd (omega arith)) (λ x. let e = x.1 in let z : ◌≡◌ {A = ℕ} 0 1 = cc in absurd (omega arith)),
    )

    step-at : (p : ℕ) → T (has p (onward_of far s d (eqb (get_or depth s 0) n) depth masks)) ↔ InMask far a d s p
    unfolding onward_of
    step-at p = (
      λ i. (mask-depth far dist h s p pos).1 ((ahead-is (far s p)).0 ((in-set_of 8 test p).0 i).1),
      λ i. (in-set_of 8 test p).1 ((somewhere far size wired d s p i.port.rest i.port.short.leads).1, (ahead-is (far s p)).1 ((mask-depth far dist h s p pos).0 i)),
    )
      where
        test : ℕ → Bool
        test p = ahead d (eqb (get_or depth s 0) n) depth masks (get_or depth s 0) (far s p)

  pub onward-step : (depth masks : List ℕ) → Depths far a (λ s. get_or depth s 0) → (s : ℕ) → zero < get_or depth s 0
      → ((v : ℕ) → get_or depth v 0 ≡ suc (get_or depth s 0) → get_or masks v 0 ≡ mask_of far size d a v)
      → onward_of far s d (eqb (get_or depth s 0) n) depth masks ≡ mask_of far size d a s
  onward-step depth masks h s pos right =
      same (onward_of far s d (eqb (get_or depth s 0) n) depth masks) (mask_of far size d a s) (λ p.
      let i = step-at depth masks h s pos right p in
      let j = in-mask far size wired d a n dist s p in
      same-T (has p (onward_of far s d (eqb (get_or depth s 0) n) depth masks)) (has p (mask_of far size d a s)) (λ t. j.1 (i.0 t)) (λ t. i.1 (j.0 t)))
