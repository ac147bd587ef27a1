-- The sets `near k`, and what follows: every switch has its distance, at most the number of switches, or reaches d by no list.
-- Assumes nothing.
use Prim.Native.Nat.{ℕ, zero, suc, ◌-◌, ◌≤◌, ◌<◌, zero-le, suc-le-suc}
use native.Mathlib.Nat.{le_refl, le_trans, le_of_eq, le_antisymm, le-suc, le_of_suc-le-suc, suc_inj}
use native.Mathlib.Decide.{dec_le}
use native.Mathlib.Omega.{arith}
use mathlib.Core.Path.{◌≡◌, refl, sym, ap, subst}
use mathlib.Core.Logic.{◌↔◌, ◌≢◌, ◌⊎◌, inl, inr, ⊎_elim}
use mathlib.Core.Bool.{Bool}
use mathlib.Core.List.{List, [], ◌∷◌}
use lib.Dec.{T, ltb, eqb→eq, ltb→lt, lt→ltb}
use lib.ListN.{length}
use Rattle.rules.specs.Sets.{has, any, set_of, least, count}
use Rattle.rules.specs.Net.{Far, switch, node, nothing, follow, Shortest, Distance, Unreachable, Onward, Wired}
use Rattle.rules.specs.Run.{arrives, near, dist_to, onward}
use Rattle.rules.proofs.SetLaws.{any-yes, any_some, in-set_of, has-nothing, eq-T, not-lt, Least, least-is, least_under, least-one}
use Rattle.rules.proofs.Counts.{count-le, count-more}
use Rattle.rules.proofs.Ways.{from-node, from_nothing, step, unstep, of-shortest, shortest-tail, never-zero}

module _ (far : ℕ → ℕ → Far) (d : ℕ) where
  -- a list that leads to d, no longer than the distance, is a shortest one
  pub as_short : {s n : ℕ} (ps : List ℕ) → Distance far s d n → follow far ps (switch s) ≡ node d → length ps ≤ n → Shortest far (switch s) (node d) ps
  as_short ps h e l = record { leads = e; least = λ qs k. le_trans l (le_trans (le_of_eq (sym h.long)) (h.short.least qs k)) }

module _ (far : ℕ → ℕ → Far) (size : ℕ) (wired : Wired far size) (d : ℕ) where
  -- some list of at most k ports leads from s to d
  pub record Within (k s : ℕ) : Type 0 where
    pub way : List ℕ
    pub leads : follow far way (switch s) ≡ node d
    pub short : length way ≤ k

  -- where port p of s comes within k ports of d
  Comes : ℕ → Far → Type 0
  Comes k x = (qs : List ℕ) × (follow far qs x ≡ node d) × (length qs ≤ k)

  comes : (k : ℕ) (x : Far) → ((t : ℕ) → T (has t (near far size d k)) ↔ Within k t) → T (arrives far size d (near far size d k) x) ↔ Comes k x
  unfolding arrives Comes follow
  comes k (switch t) ih = (λ h. let w = (ih t).0 h in (w.way, w.leads, w.short), λ c. (ih t).1 (record { way = c.0; leads = c.1; short = c.2 }))
  comes k (node n) ih = (λ h. ([], ap node (eqb→eq n d h), zero-le), λ c. eq-T n d (from-node far c.0 n d c.1).1)
  comes k nothing ih = (λ h. absurd h, λ c. absurd (from_nothing far c.0 d c.1))

  pub somewhere : (s p : ℕ) (qs : List ℕ) → follow far (p ∷ qs) (switch s) ≡ node d → (s < size) × (p < 8)
  somewhere s p qs e = wired.inside s p (λ n. from_nothing far qs d (unstep far qs n e))

  pub in_near : (k s : ℕ) → T (has s (near far size d k)) ↔ Within k s
  unfolding near Comes follow
  in_near zero s = (λ h. absurd (subst T (has-nothing s) h), λ w. absurd (none w.way w.leads w.short))
    where
      none : (ps : List ℕ) → follow far ps (switch s) ≡ node d → length ps ≤ 0 → ⊥
      none [] e l = let z : ◌≡◌ {A = ℕ} 0 1 = cc in omega arith
      none (p ∷ ps) e l = omega arith
  in_near (suc k) s = (
    λ h. let a = any_some 8 test ((in-set_of size at s).0 h).1 in
        let c = (comes k (far s a.0) (in_near k)).0 a.2 in
        record { way = a.0 ∷ c.0; leads = c.1; short = suc-le-suc c.2 },
    λ w. back w.way w.leads w.short (λ p. (comes k (far s p) (in_near k)).1),
  )
    where
      at : ℕ → Bool
      at s = any 8 (λ p. arrives far size d (near far size d k) (far s p))

      test : ℕ → Bool
      test p = arrives far size d (near far size d k) (far s p)

      back : (ps : List ℕ) → follow far ps (switch s) ≡ node d → length ps ≤ suc k → ((p : ℕ) → Comes k (far s p) → T (test p)) → T (has s (set_of size at))
      back [] e l f = let z : ◌≡◌ {A = ℕ} 0 1 = cc in absurd (omega arith)
      back (p ∷ ps) e l f =
          let b = somewhere s p ps e in (in-set_of size at s).1 (b.0, any-yes 8 test p b.1 (f p (ps, e, le_of_suc-le-suc l)))

  -- ---- distances

  -- a least k with s in near k is the distance
  pub near-distance : (n s k : ℕ) → Least n (λ k. has s (near far size d k)) k → k < n → Distance far s d k
  near-distance n s k h l =
      let w = (in_near k s).0 (h.hit l) in
      let first : (qs : List ℕ) → follow far qs (switch s) ≡ node d → k ≤ length qs
      = λ qs e. not-lt (λ m. h.before (length qs) m ((in_near (length qs) s).1 (record { way = qs; leads = e; short = le_refl (length qs) }))) in
      record {
        way = w.way;
        short = record { leads = w.leads; least = λ qs e. le_trans w.short (first qs e) };
        long = le_antisymm w.short (first w.way w.leads);
      }

  -- whatever some list reaches has a distance
  pub has-distance : (s : ℕ) (ps : List ℕ) → follow far ps (switch s) ≡ node d → (n : ℕ) × Distance far s d n
  has-distance s ps e =
      let f : ℕ → Bool = λ k. has s (near far size d k) in
      let h = least-is (suc (length ps)) f in
      let k = least (suc (length ps)) f in
      (k, near-distance (suc (length ps)) s k h (suc-le-suc (least_under h ((in_near (length ps) s).1 (record { way = ps; leads = e; short = le_refl (length ps) })))))

  wider : (k s : ℕ) → T (has s (near far size d k)) → T (has s (near far size d (suc k)))
  wider k s t = let w = (in_near k s).0 t in (in_near (suc k) s).1 (record { way = w.way; leads = w.leads; short = le_trans w.short (le-suc k) })

  layer : ℕ → ℕ → Bool
  layer k s = has s (near far size d k)

  -- A switch at distance suc k is in near (suc k) and not in near k, so each near k that has switches beyond it has k members at least.
  grows : (k s : ℕ) → Distance far s d k → k ≤ count size (layer k)
  unfolding layer
  grows zero s h = zero-le
  grows (suc k) s h = go h.way h.short h.long (grows k)
    where
      out : T (layer k s) → ⊥
      out t = let w = (in_near k s).0 t in let a = h.short.least w.way w.leads in let b = w.short in let e = h.long in omega arith

      into : T (layer (suc k) s)
      into = (in_near (suc k) s).1 (record { way = h.way; leads = h.short.leads; short = le_of_eq h.long })

      go : (ps : List ℕ) → Shortest far (switch s) (node d) ps → length ps ≡ suc k → ((t : ℕ) → Distance far t d k → k ≤ count size (layer k)) → suc k ≤ count size (layer (suc k))
      go [] sh e ih = absurd (omega arith)
      go (p ∷ qs) sh e ih = le_trans (suc-le-suc (at (far s p) refl)) (count-more (layer k) (layer (suc k)) (wider k) size s (somewhere s p qs sh.leads).0 out into)
        where
          at : (x : Far) → far s p ≡ x → k ≤ count size (layer k)
          at (switch t) f = ih t (record { way = qs; short = shortest-tail far f sh; long = suc_inj e })
          at (node n) f = let z = ap length (from-node far qs n d (unstep far qs f sh.leads)).0 in le_trans (omega arith) (zero-le {n = count size (layer k)})
          at nothing f = absurd (from_nothing far qs d (unstep far qs f sh.leads))

  pub distance-le : {k s : ℕ} → Distance far s d k → k ≤ size
  distance-le {k} {s} h = le_trans (grows k s h) (count-le size (layer k))

  -- ---- `dist_to` is the distance, or size + 1 where no list leads to d

  pub dist-is : {s n : ℕ} → Distance far s d n → dist_to far size d s ≡ n
  unfolding dist_to
  dist-is {s} {n} h =
      let l = distance-le h in
      least-one (least-is (suc size) (λ k. has s (near far size d k))) (record {
        bound = omega arith;
        before = λ j m t. let w = (in_near j s).0 t in let a = h.short.least w.way w.leads in let b = w.short in let e = h.long in omega arith;
        hit = λ _. (in_near n s).1 (record { way = h.way; leads = h.short.leads; short = le_of_eq h.long });
      })

  pub dist-far : (s : ℕ) → Unreachable far s d → dist_to far size d s ≡ suc size
  unfolding dist_to
  dist-far s h =
      least-one (least-is (suc size) (λ k. has s (near far size d k))) (record {
        bound = le_refl (suc size);
        before = λ j m t. let w = (in_near j s).0 t in h w.way w.leads;
        hit = λ l. absurd (omega arith);
      })

  pub dist-cases : (s : ℕ) → Distance far s d (dist_to far size d s) ⊎ Unreachable far s d
  unfolding dist_to
  dist-cases s = go (dec_le (dist_to far size d s) size)
    where
      go : Dec (dist_to far size d s ≤ size) → Distance far s d (dist_to far size d s) ⊎ ((ps : List ℕ) → ¬ (follow far ps (switch s) ≡ node d))
      go (yes l) = inl (near-distance (suc size) s (dist_to far size d s) (least-is (suc size) (λ k. has s (near far size d k))) (suc-le-suc l))
      go (no l) = inr (λ ps e. let n = has-distance s ps e in let a = distance-le n.1 in let b = dist-is n.1 in l (omega arith))

  pub unreachable-is : (s : ℕ) → T (ltb size (dist_to far size d s)) ↔ Unreachable far s d
  unreachable-is s = (
    λ h. ⊎_elim (λ k. let l = distance-le k in let m = ltb→lt size (dist_to far size d s) h in absurd (omega arith)) (λ u. u) (dist-cases s),
    λ u. let e = dist-far s u in lt→ltb size (dist_to far size d s) (omega arith),
  )

  -- ---- `onward` has the ports that start a shortest way onward

  pub in-onward : (s p : ℕ) → T (has p (onward far size d s)) ↔ Onward far d s p
  unfolding onward Comes
  in-onward s p = (
    λ h. let i = (in-set_of 8 test p).0 h in let c = (comes k (far s p) (in_near k)).0 i.1 in
        ⊎_elim
        (λ n. record { rest = c.0; short = as_short far d (p ∷ c.0) n (step far c.0 refl c.1) (fits n c.2) })
        (λ u. absurd (u (p ∷ c.0) (step far c.0 refl c.1)))
        (dist-cases s),
    λ o. (in-set_of 8 test p).1 (
      (somewhere s p o.rest o.short.leads).1,
      (comes k (far s p) (in_near k)).1 (o.rest, unstep far o.rest refl o.short.leads, same o),
    ),
  )
    where
      k : ℕ
      k = dist_to far size d s - 1

      test : ℕ → Bool
      test p = arrives far size d (near far size d k) (far s p)

      fits : {l : ℕ} → Distance far s d (dist_to far size d s) → l ≤ k → suc l ≤ dist_to far size d s
      fits n l = let z : dist_to far size d s ≢ 0 = λ e. never-zero far (subst (Distance far s d) e n) in omega arith

      same : (o : Onward far d s p) → length o.rest ≤ k
      same o = let e = dist-is (of-shortest far o.short) in omega arith
