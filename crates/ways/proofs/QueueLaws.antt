-- A breadth-first search with a queue. The switches in the queue are at most one depth apart, so a switch seen from the first that has not
-- been gone on from goes to the end of the queue, one deeper than it; when all have been gone on from, the depths are those of shortest lists.
-- Assumes nothing.
use Prim.Native.Nat.{ℕ, zero, suc, ◌≤◌, ◌<◌, zero-le}
use native.Mathlib.Nat.{le_refl, le_trans, le_of_eq, lt_of_le_of_lt, not-suc-le-zero, eq-zero-or-pos, suc_inj}
use native.Mathlib.Omega.{arith}
use mathlib.Core.Path.{◌≡◌, refl, sym, ap, ◌∙◌, subst}
use mathlib.Core.Logic.{◌⊎◌, ⊎_elim, ◌≢◌}
use mathlib.Core.Bool.{true, false}
use mathlib.Core.List.{List, [], ◌∷◌, ◌++◌}
use lib.Dec.{ltb, ltb→lt}
use lib.ListN.{length, get_or, set, replicate, length-append, length-replicate}
use lib.Seq.{get_or-set_same, get_or-set_other}
use Rattle.rules.specs.Net.{Far, switch, follow, Wired}
use Rattle.rules.proofs.SetLaws.{lt-cases}
use Rattle.rules.proofs.Counts.{count-le, count-more}
use Rattle.rules.proofs.Ways.{follow-append}
use Rattle.ways.specs.Search.{Searched, Queue}
use Rattle.ways.proofs.Forward.{depths-closed}
use Rattle.ways.proofs.Grows.{same_or_not, count_none, seen_same, seen-cases, seen-count, listed-add, low-add, rising-add, window-add}

-- ports below p of the switch s, the one to go on from, have been gone over
pub record Expanding (far : ℕ → ℕ → Far) (size a s : ℕ) (order depth : List ℕ) (reached next p : ℕ) : Type 0 where
  pub queue : Queue far size a order depth reached next
  pub there : next < reached
  pub here : get_or order next 0 ≡ s
  pub part : (q v : ℕ) → q < p → far s q ≡ switch v → (zero < get_or depth v 0) × (get_or depth v 0 ≤ suc (get_or depth s 0))

module _ {far : ℕ → ℕ → Far} {size a : ℕ} {order depth : List ℕ} {reached next : ℕ} (queue : Queue far size a order depth reached next) where
  pub queue-few : reached ≤ size
  queue-few = le_trans (le_of_eq queue.counted) (count-le size (λ s. ltb 0 (get_or depth s 0)))

  pub queue-low : (s : ℕ) → get_or depth s 0 ≤ reached
  queue-low s = ⊎_elim (λ e. omega arith) low (eq-zero-or-pos (get_or depth s 0))
    where
      low : zero < get_or depth s 0 → get_or depth s 0 ≤ reached
      low h =
          let f = queue.found s h in
          let e = ap (λ (x : ℕ). get_or depth x 0) f.2 in
          let l = queue.low f.0 f.1 in
          let k = f.1 in
          omega arith

  -- an unseen switch has room
  pub queue-room : {v : ℕ} → v < size → get_or depth v 0 ≡ 0 → reached < size
  queue-room {v} l e =
      let m = count-more (λ s. ltb 0 (get_or depth s 0)) (λ _. true) (λ _ _. tt) size v l (λ t. let h = ltb→lt 0 (get_or depth v 0) t in omega arith) tt in
      let c = count-le size (λ _. true) in
      let k = queue.counted in
      omega arith

  pub queue-begin : next < reached → Expanding far size a (get_or order next 0) order depth reached next 0
  queue-begin l = record { queue = queue; there = l; here = refl; part = λ q v h. absurd (not-suc-le-zero h) }

-- ---- nothing new at a port

module _ {far : ℕ → ℕ → Far} {size a s : ℕ} {order depth : List ℕ} {reached next p : ℕ} (x : Expanding far size a s order depth reached next p) where
  -- no switch seen is deeper than one below s
  at_most : (v : ℕ) → zero < get_or depth v 0 → get_or depth v 0 ≤ suc (get_or depth s 0)
  at_most v h =
      let f = x.queue.found v h in
      let e = ap (λ (w : ℕ). get_or depth w 0) f.2 in
      let g = ap (λ (w : ℕ). get_or depth w 0) x.here in
      let w = x.queue.window next f.0 (le_refl next) x.there f.1 in
      omega arith

  pub queue-skip : ((v : ℕ) → far s p ≡ switch v → zero < get_or depth v 0) → Expanding far size a s order depth reached next (suc p)
  queue-skip h = record { queue = x.queue; there = x.there; here = x.here; part = part }
    where
      part : (q v : ℕ) → q < suc p → far s q ≡ switch v → (zero < get_or depth v 0) × (get_or depth v 0 ≤ suc (get_or depth s 0))
      part q v l e = ⊎_elim (λ c. let k = h v (ap (far s) (sym c) ∙ e) in (k, at_most v k)) (λ k. x.part q v k e) (lt-cases l)

-- ---- one more at the end

module _ {far : ℕ → ℕ → Far} {size a s : ℕ} {order depth : List ℕ} {reached next p v : ℕ} (x : Expanding far size a s order depth reached next p)
    (link : far s p ≡ switch v) (inside : v < size) (fresh : get_or depth v 0 ≡ 0) (places : size ≤ length order) (depths : size ≤ length depth) where
  abbrev D : ℕ → ℕ
  D w = get_or depth w 0

  abbrev D' : ℕ → ℕ
  D' w = get_or (set depth v (suc (D s))) w 0

  abbrev O : ℕ → ℕ
  O i = get_or order i 0

  abbrev O' : ℕ → ℕ
  O' i = get_or (set order reached v) i 0

  new : D' v ≡ suc (D s)
  new = get_or-set_same depth v (suc (D s)) 0 (omega arith)

  other : (w : ℕ) → w ≢ v → D' w ≡ D w
  other w n = get_or-set_other depth v w (suc (D s)) 0 n

  same : (w : ℕ) → zero < D w → D' w ≡ D w
  same = seen_same D D' v (D s) fresh new other

  cases : (w : ℕ) → zero < D' w → (w ≡ v) ⊎ (zero < D w)
  cases = seen-cases D D' v (D s) fresh new other

  end : O' reached ≡ v
  end = let r = queue-room x.queue inside fresh in get_or-set_same order reached v 0 (omega arith)

  place : (i : ℕ) → i < reached → O' i ≡ O i
  place i l = get_or-set_other order reached i v 0 (λ e. omega arith)

  old : (i : ℕ) → i < reached → D' (O' i) ≡ D (O i)
  old i l = ap D' (place i l) ∙ same (O i) (x.queue.listed i l)

  last : D' (O' reached) ≡ suc (D (O next))
  last = ap D' end ∙ new ∙ ap (λ (u : ℕ). suc (D u)) (sym x.here)

  pos : zero < D s
  pos = subst (λ (u : ℕ). zero < D u) x.here (x.queue.listed next x.there)

  led-new : (k : ℕ) → D s ≡ k → (ps : List ℕ) × (follow far ps (switch a) ≡ switch v) × (length ps ≡ k)
  unfolding follow
  led-new zero e = let h = pos in absurd (omega arith)
  led-new (suc k) e =
      let r = x.queue.led s k e in
      let l = length-append r.0 (p ∷ []) in
      let m = r.2 in
      (r.0 ++ p ∷ [], follow-append far r.0 (p ∷ []) (switch a) ∙ ap (follow far (p ∷ [])) r.1 ∙ link, omega arith)

  led-add : (w k : ℕ) → D' w ≡ suc k → (ps : List ℕ) × (follow far ps (switch a) ≡ switch w) × (length ps ≡ k)
  led-add w k e =
      ⊎_elim
      (λ c. subst (λ (u : ℕ). (ps : List ℕ) × (follow far ps (switch a) ≡ switch u) × (length ps ≡ k)) (sym c) (led-new k (suc_inj (sym new ∙ ap D' (sym c) ∙ e))))
      (λ h. x.queue.led w k (sym (same w h) ∙ e))
      (cases w (omega arith))

  found_add : (w : ℕ) → zero < D' w → (i : ℕ) × (i < suc reached) × (O' i ≡ w)
  found_add w h =
      ⊎_elim (λ c. (reached, le_refl (suc reached), end ∙ sym c))
      (λ k. let f = x.queue.found w k in let l = f.1 in (f.0, omega arith, place f.0 l ∙ f.2)) (cases w h)

  -- what holds of a depth seen before holds of it now
  still : (w u : ℕ) → zero < D u → (zero < D w) × (D w ≤ suc (D u)) → (zero < D' w) × (D' w ≤ suc (D' u))
  still w u h k =
      let i = same w k.0 in
      let j = same u h in
      let m = k.0 in
      let n = k.1 in
      (omega arith, omega arith)

  closed-add : (i q w : ℕ) → i < next → far (O' i) q ≡ switch w → (zero < D' w) × (D' w ≤ suc (D' (O' i)))
  closed-add i q w l e =
      let t = x.there in
      let r : i < reached = omega arith in
      let o = place i r in
      subst (λ (u : ℕ). (zero < D' w) × (D' w ≤ suc (D' u))) (sym o)
      (still w (O i) (x.queue.listed i r) (x.queue.closed i q w l (ap (λ (u : ℕ). far u q) (sym o) ∙ e)))

  queue-added : Queue far size a (set order reached v) (set depth v (suc (D s))) (suc reached) next
  queue-added =
      let q = x.queue in
      let t = x.there in
      record {
        counted = ap suc q.counted ∙ sym (seen-count D D' v (D s) fresh new other size inside);
        some = omega arith;
        start = (place 0 (omega arith) ∙ q.start.0, let h = q.start.1 in same a (omega arith) ∙ h);
        inside = λ w h. ⊎_elim (λ c. lt_of_le_of_lt (le_of_eq c) inside) (q.inside w) (cases w h);
        listed = listed-add (λ i. D (O i)) (λ i. D' (O' i)) reached next t old last q.listed;
        found = found_add;
        led = led-add;
        low = low-add (λ i. D (O i)) (λ i. D' (O' i)) reached next t old last q.low;
        rising = rising-add (λ i. D (O i)) (λ i. D' (O' i)) reached next t old last q.window q.rising;
        window = window-add (λ i. D (O i)) (λ i. D' (O' i)) reached next t old last q.window q.rising;
        closed = closed-add;
      }

  pub queue-add : Expanding far size a s (set order reached v) (set depth v (suc (get_or depth s 0))) (suc reached) next (suc p)
  queue-add = record { queue = queue-added; there = let t = x.there in omega arith; here = place next x.there ∙ x.here; part = part }
    where
      part : (q w : ℕ) → q < suc p → far s q ≡ switch w → (zero < D' w) × (D' w ≤ suc (D' s))
      part q w l e =
          ⊎_elim
          (λ c. let f : far s p ≡ switch w = ap (far s) (sym c) ∙ e in
          let g : v ≡ w = cc in
          let h : D' w ≡ suc (D s) = ap D' (sym g) ∙ new in
          let i = same s pos in
          (omega arith, omega arith))
          (λ k. still w s pos (x.part q w k e))
          (lt-cases l)

-- ---- all ports gone over

module _ {far : ℕ → ℕ → Far} {size a s : ℕ} {order depth : List ℕ} {reached next : ℕ} where
  pub queue-next : Expanding far size a s order depth reached next 8 → Wired far size → Queue far size a order depth reached (suc next)
  queue-next x wired = record {
    counted = x.queue.counted;
    some = x.there;
    start = x.queue.start;
    inside = x.queue.inside;
    listed = x.queue.listed;
    found = x.queue.found;
    led = x.queue.led;
    low = x.queue.low;
    rising = x.queue.rising;
    window = λ i j l. x.queue.window i j (omega arith);
    closed = closed;
  }
    where
      last : (p v : ℕ) → far s p ≡ switch v → (zero < get_or depth v 0) × (get_or depth v 0 ≤ suc (get_or depth s 0))
      last p v e = x.part p v (wired.inside s p (λ n. let z : ◌≡◌ {A = ℕ} 0 1 = cc in omega arith)).1 e

      closed : (i p v : ℕ) → i < suc next → far (get_or order i 0) p ≡ switch v → (zero < get_or depth v 0) × (get_or depth v 0 ≤ suc (get_or depth (get_or order i 0) 0))
      closed i p v l e =
          ⊎_elim
          (λ c. let o : get_or order i 0 ≡ s = ap (λ (k : ℕ). get_or order k 0) c ∙ x.here in
          subst (λ (u : ℕ). (zero < get_or depth v 0) × (get_or depth v 0 ≤ suc (get_or depth u 0))) (sym o) (last p v (ap (λ (u : ℕ). far u p) (sym o) ∙ e)))
          (λ k. x.queue.closed i p v k e)
          (lt-cases l)

-- ---- the start and the end

pub zeros : (n i : ℕ) → ◌≡◌ {A = ℕ} (get_or (replicate n 0) i 0) 0
zeros zero i = refl
zeros (suc n) zero = refl
zeros (suc n) (suc i) = zeros n i

pub queue-start : {far : ℕ → ℕ → Far} {size a : ℕ} (n : ℕ) → a < size → size ≤ n → Queue far size a (set (replicate n 0) 0 a) (set (replicate n 0) a 1) 1 0
unfolding follow
queue-start {far} {size} {a} n l m = record {
  counted = sym (seen-count (λ _. 0) D a 0 refl new other size l ∙ ap suc (count_none (λ _. false) (λ _. refl) size));
  some = zero-le;
  start = (first, new);
  inside = λ w h. lt_of_le_of_lt (le_of_eq (only w h)) l;
  listed = λ i h. let x = at i h in omega arith;
  found = λ w h. (0, le_refl 1, first ∙ sym (only w h));
  led = led;
  low = λ i h. let x = at i h in omega arith;
  rising = λ i j h k. let x = at i (lt_of_le_of_lt h k) in let y = at j k in omega arith;
  window = λ i j h k o. let x = at i k in let y = at j o in omega arith;
  closed = λ i p v h. absurd (not-suc-le-zero h);
}
  where
    D : ℕ → ℕ
    D w = get_or (set (replicate n 0) a 1) w 0

    new : D a ≡ 1
    new = get_or-set_same (replicate n 0) a 1 0 (le_trans (omega arith) (le_of_eq (sym (length-replicate n 0))))

    other : (w : ℕ) → w ≢ a → D w ≡ 0
    other w k = get_or-set_other (replicate n 0) a w 1 0 k ∙ zeros n w

    first : get_or (set (replicate n 0) 0 a) 0 0 ≡ a
    first = get_or-set_same (replicate n 0) 0 a 0 (le_trans (omega arith) (le_of_eq (sym (length-replicate n 0))))

    only : (w : ℕ) → zero < D w → w ≡ a
    only w h = ⊎_elim (λ e. e) (λ k. let x = other w k in absurd (omega arith)) (same_or_not w a)

    at : (i : ℕ) → i < 1 → D (get_or (set (replicate n 0) 0 a) i 0) ≡ 1
    at i h = let z : i ≡ 0 = omega arith in ap (λ (k : ℕ). D (get_or (set (replicate n 0) 0 a) k 0)) z ∙ ap D first ∙ new

    led : (w k : ℕ) → D w ≡ suc k → (ps : List ℕ) × (follow far ps (switch a) ≡ switch w) × (length ps ≡ k)
    led w k e =
        let o = only w (omega arith) in
        let x : D w ≡ 1 = ap D o ∙ new in
        ([], ap switch (sym o), omega arith)

pub queue-end : {far : ℕ → ℕ → Far} {size a : ℕ} {order depth : List ℕ} {reached : ℕ} → Queue far size a order depth reached reached → Searched far size a order depth reached
queue-end {far} {size} {a} {order} {depth} {reached} queue = record {
  depths = depths-closed far a (λ s. get_or depth s 0) queue.start.1 queue.led closed;
  few = queue-few queue;
  small = λ s. le_trans (queue-low queue s) (queue-few queue);
  inside = queue.inside;
  listed = queue.listed;
  found = queue.found;
  rising = queue.rising;
}
  where
    closed : (s p v : ℕ) → zero < get_or depth s 0 → far s p ≡ switch v → (zero < get_or depth v 0) × (get_or depth v 0 ≤ suc (get_or depth s 0))
    closed s p v h e =
        let f = queue.found s h in
        subst (λ (u : ℕ). (zero < get_or depth v 0) × (get_or depth v 0 ≤ suc (get_or depth u 0))) f.2
        (queue.closed f.0 p v f.1 (ap (λ (u : ℕ). far u p) f.2 ∙ e))
