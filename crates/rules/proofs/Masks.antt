-- Which switches lie on a shortest way, and that `mask_of` is the mask. Cut at a switch, a shortest list is two shortest lists, so the two distances
-- add up; and two that add up join to one.
-- Assumes nothing.
use Prim.Native.Nat.{ℕ, zero, suc, ◌-◌, ◌^◌, ◌≤◌, ◌<◌, zero-le, suc-le-suc}
use native.Mathlib.Nat.{suc_inj}
use native.Mathlib.Omega.{arith}
use mathlib.Core.Path.{◌≡◌, refl, sym, ap, ◌∙◌, subst}
use mathlib.Core.Logic.{◌↔◌}
use mathlib.Core.Bool.{Bool, true, false, cond, ◌&&◌}
use mathlib.Core.List.{List, [], ◌∷◌, ◌++◌, append_assoc}
use lib.Dec.{T, leb, le→leb}
use lib.ListN.{length, length-append}
use Rattle.rules.specs.Sets.{has, set_of}
use Rattle.rules.specs.Net.{Far, switch, node, nothing, follow, Shortest, Distance, Onward, OnWay, InMask, Wired}
use Rattle.rules.specs.Tries.{reaches}
use Rattle.rules.specs.Run.{arrives, near, dist_to, onward, met, mask_of}
use Rattle.rules.proofs.SetLaws.{T_and, and_i, eq-T, in-set_of, set_of-lt, has-single, single-one, has-nothing}
use Rattle.rules.proofs.Ways.{follow-append, of-shortest, shortest-tail, shortest-cons, node-no-switch, nothing-no-switch}
use Rattle.rules.proofs.Layers.{as_short, dist-is, in-onward}
use Rattle.rules.proofs.Search.{Has, reaches-from, from-reaches}

module _ (far : ℕ → ℕ → Far) where
  -- a shortest list from a to d goes through s
  pub record Via (a d s : ℕ) : Type 0 where
    pub before : List ℕ
    pub after : List ℕ
    pub to : follow far before (switch a) ≡ switch s
    pub whole : Shortest far (switch a) (node d) (before ++ after)

  through : (a : ℕ) {s : ℕ} {y : Far} (ps qs : List ℕ) → follow far ps (switch a) ≡ switch s → follow far qs (switch s) ≡ y → follow far (ps ++ qs) (switch a) ≡ y
  through a ps qs e f = follow-append far ps qs (switch a) ∙ ap (follow far qs) e ∙ f

  pub via-after : {a d s : ℕ} (v : Via a d s) → Shortest far (switch s) (node d) v.after
  via-after {a} {d} {s} v = record {
    leads = sym (ap (follow far v.after) v.to) ∙ sym (follow-append far v.before v.after (switch a)) ∙ v.whole.leads;
    least = λ qs e.
        let l = v.whole.least (v.before ++ qs) (through a v.before qs v.to e) in
        let i = length-append v.before v.after in
        let j = length-append v.before qs in omega arith;
  }

  via-before : {a d s : ℕ} (v : Via a d s) → Shortest far (switch a) (switch s) v.before
  via-before {a} {d} {s} v = record {
    leads = v.to;
    least = λ qs e.
        let l = v.whole.least (qs ++ v.after) (through a qs v.after e (via-after v).leads) in
        let i = length-append v.before v.after in
        let j = length-append qs v.after in omega arith;
  }

  -- ---- 01's sum of distances says the same
  pub via-onway : {a d s : ℕ} → Via a d s → OnWay far a d s
  via-onway v = record {
    before = v.before;
    m = length v.after;
    n = length (v.before ++ v.after);
    reached = via-before v;
    onward = of-shortest far (via-after v);
    whole = of-shortest far v.whole;
    sum = let i = length-append v.before v.after in omega arith;
  }

  pub onway-via : {a d s : ℕ} → OnWay far a d s → Via a d s
  onway-via {a} {d} {s} o =
      let rs = o.onward.way in
      let l : length (o.before ++ rs) ≤ o.n = let i = length-append o.before rs in let j = o.sum in let k = o.onward.long in omega arith in
      record {
        before = o.before;
        after = rs;
        to = o.reached.leads;
        whole = as_short far d (o.before ++ rs) o.whole (through a o.before rs o.reached.leads o.onward.short.leads) l;
      }

  -- a port onward from a switch on the way leads to one on the way
  pub via-next : {a d s p t : ℕ} → Via a d s → Onward far d s p → far s p ≡ switch t → Via a d t
  unfolding follow
  via-next {a} {d} {s} {p} {t} v o e =
      let j = o.short.least v.after (via-after v).leads in
      let l : length (v.before ++ (p ∷ o.rest)) ≤ length (v.before ++ v.after)
      = let h = length-append v.before v.after in let i = length-append v.before (p ∷ o.rest) in omega arith in
      record {
        before = v.before ++ (p ∷ []);
        after = o.rest;
        to = through a v.before (p ∷ []) v.to e;
        whole = rw append_assoc (as_short far d (v.before ++ (p ∷ o.rest)) (of-shortest far v.whole) (through a v.before (p ∷ o.rest) v.to o.short.leads) l);
      }

module _ (far : ℕ → ℕ → Far) (size : ℕ) (wired : Wired far size) (d : ℕ) where
  -- from a switch of m some shortest list goes through s after i ports
  pub record Met (i m s : ℕ) : Type 0 where
    pub start : ℕ
    pub there : Has m start
    pub via : Via far start d s
    pub long : length via.before ≡ i

  next : ℕ → ℕ
  next m = set_of size (reaches far size m (onward far size d))

  from_next : (m t : ℕ) → Has (next m) t → (s : ℕ) × (p : ℕ) × Has m s × Onward far d s p × (far s p ≡ switch t)
  unfolding next
  from_next m t h =
      let r = reaches-from far size wired m (onward far size d) t ((in-set_of size (reaches far size m (onward far size d)) t).0 h).1 in
      (r.0, r.1, r.2, (in-onward far size wired d r.0 r.1).0 r.3, r.4)

  to-next : (m t s p : ℕ) → Has m s → Onward far d s p → far s p ≡ switch t → Has (next m) t
  unfolding next
  to-next m t s p h o e =
      (in-set_of size (reaches far size m (onward far size d)) t).1
      (wired.link s p t e, from-reaches far size wired m (onward far size d) t s p h ((in-onward far size wired d s p).1 o) e)

  -- every switch of m has a way to d
  abbrev pub Ends : ℕ → Type 0
  Ends m = (s : ℕ) → Has m s → (ps : List ℕ) × Shortest far (switch s) (node d) ps

  next-ends : (m : ℕ) → Ends (next m)
  next-ends m t h = let r = from_next m t h in (r.3.rest, shortest-tail far r.4 r.3.short)

  met_start : (m s u : ℕ) (ps : List ℕ) → Has m u → follow far ps (switch u) ≡ switch s → length ps ≡ 0 → Has m s
  unfolding follow
  met_start m s u [] h e l = subst (λ (x : ℕ). T (has x m)) (cc) h
  met_start m s u (p ∷ ps) h e l = absurd (omega arith)

  met-on : (i m s : ℕ) → Met i (next m) s → Met (suc i) m s
  unfolding follow
  met-on i m s r =
      let f = from_next m r.start r.there in
      record {
        start = f.0;
        there = f.2;
        via = record {
          before = f.1 ∷ r.via.before;
          after = r.via.after;
          to = ap (follow far r.via.before) f.4 ∙ r.via.to;
          whole = shortest-cons far f.3 f.4 r.via.whole;
        };
        long = ap suc r.long;
      }

  met-off : (i m s u : ℕ) (ps qs : List ℕ) → Has m u → follow far ps (switch u) ≡ switch s → Shortest far (switch u) (node d) (ps ++ qs) → length ps ≡ suc i → Met i (next m) s
  unfolding follow
  met-off i m s u [] qs h e w l = absurd (omega arith)
  met-off i m s u (p ∷ ps) qs h e w l = at (far u p) refl
    where
      at : (x : Far) → far u p ≡ x → Met i (next m) s
      at (switch t) f = record {
        start = t;
        there = to-next m t u p h (record { rest = ps ++ qs; short = w }) f;
        via = record { before = ps; after = qs; to = ap (follow far ps) (sym f) ∙ e; whole = shortest-tail far f w };
        long = suc_inj l;
      }
      at (node n) f = absurd (node-no-switch far ps n s (ap (follow far ps) (sym f) ∙ e))
      at nothing f = absurd (nothing-no-switch far ps s (ap (follow far ps) (sym f) ∙ e))

  pub in-met : (i m s : ℕ) → Ends m → Has (met far size d i m) s ↔ Met i m s
  unfolding met next follow
  in-met zero m s a = (
    λ h. let k = a s h in record { start = s; there = h; via = record { before = []; after = k.0; to = refl; whole = k.1 }; long = refl },
    λ r. met_start m s r.start r.via.before r.there r.via.to r.long,
  )
  in-met (suc i) m s a = (
    λ h. met-on i m s ((in-met i (next m) s (next-ends m)).0 h),
    λ r. (in-met i (next m) s (next-ends m)).1 (met-off i m s r.start r.via.before r.via.after r.there r.via.to r.via.whole r.long),
  )

  -- ---- masks
  module _ (a n : ℕ) (h : Distance far a d n) where
    pub self : Has (2 ^ a) a
    self = subst T (sym (has-single a a)) (eq-T a a refl)

    ends : Ends (2 ^ a)
    ends s i = (h.way, subst (λ (x : ℕ). Shortest far (switch x) (node d) h.way) (sym (single-one a s i)) h.short)

    on : ℕ → Bool
    on s = leb (dist_to far size d s) (dist_to far size d a) && has s (met far size d (dist_to far size d a - dist_to far size d s) (2 ^ a))

    in_on : (s : ℕ) → T (on s) ↔ Via far a d s
    unfolding on
    in_on s = (
      λ i. let r = (in-met k (2 ^ a) s ends).0 (T_and (leb (dist_to far size d s) (dist_to far size d a)) (has s (met far size d k (2 ^ a))) i).1 in
          subst (λ (x : ℕ). Via far x d s) (single-one a r.start r.there) r.via,
      λ v. let x = dist-is far size wired d (of-shortest far v.whole) in
          let y = dist-is far size wired d (of-shortest far (via-after far v)) in
          let z = length-append v.before v.after in
          and_i (leb (dist_to far size d s) (dist_to far size d a)) (has s (met far size d k (2 ^ a))) (le→leb (dist_to far size d s) (dist_to far size d a) (omega arith))
          ((in-met k (2 ^ a) s ends).1 (record { start = a; there = self; via = v; long = omega arith })),
    )
      where
        k : ℕ
        k = dist_to far size d a - dist_to far size d s

    at : (s p : ℕ) (b : Bool) → (T b ↔ Via far a d s) → Has (cond b (onward far size d s) 0) p ↔ InMask far a d s p
    at s p true e = (
      λ i. record { way = via-onway far (e.0 tt); port = (in-onward far size wired d s p).0 i },
      λ r. (in-onward far size wired d s p).1 r.port,
    )
    at s p false e = (λ i. absurd (subst T (has-nothing p) i), λ r. absurd (e.1 (onway-via far r.way)))

    pub in-mask : (s p : ℕ) → Has (mask_of far size d a s) p ↔ InMask far a d s p
    unfolding mask_of on
    in-mask s p = at s p (on s) (in_on s)

  pub mask-byte : (a s : ℕ) → mask_of far size d a s < 256
  unfolding mask_of onward
  mask-byte a s = at (leb (dist_to far size d s) (dist_to far size d a) && has s (met far size d (dist_to far size d a - dist_to far size d s) (2 ^ a)))
    where
      at : (b : Bool) → cond b (onward far size d s) 0 < 256
      at true = set_of-lt 8 (λ p. arrives far size d (near far size d (dist_to far size d s - 1)) (far s p))
      at false = suc-le-suc zero-le
