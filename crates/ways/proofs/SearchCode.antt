-- What the code of the search finds and keeps: whether a processor stands at a switch, the first place that passes a test, and one port of the
-- switch that the search goes on from. Assumes nothing.
use Prim.Native.Nat.{ℕ, zero, suc, ◌+◌, ◌≤◌, ◌<◌}
use native.Mathlib.Numerals.{add-one}
use native.Mathlib.Omega.{arith}
use mathlib.Core.Path.{◌≡◌, refl, sym, ap, ◌∙◌, subst}
use mathlib.Core.Bool.{Bool, true, false}
use mathlib.Core.List.{List}
use lib.Dec.{T}
use lib.ListN.{length, get_or, set, length-set}
use lib.Seq.{get_or-set_other}
use Rattle.std.specs.Prelude.{Some, None}
use Rattle.rules.specs.Look.{least_at}
use Rattle.rules.specs.Net.{Far, switch, node, Wired}
use Rattle.rules.specs.Table.{house, far_of}
use Rattle.rules.specs.RunTable.{stands}
use Rattle.rules.proofs.SetLaws.{true-T, same-T, T_true}
use Rattle.rules.proofs.Homes.{port-of, in-stands}
use Rattle.wiring.proofs.Laws.{passed-some, passed_none}
use Rattle.ways.specs.Search.{Queue}
use Rattle.ways.proofs.QueueLaws.{Expanding, queue-room, queue-begin, queue-skip, queue-add, queue-next}

-- ---- a processor at a switch

module _ (t : List ℕ) (a s : ℕ) where
  pub stands_here : (p : ℕ) → far_of house t s p ≡ node a → true ≡ stands house t a s
  stands_here p h = sym (true-T (stands house t a s) ((in-stands house t a s).1 (record { port = p; there = h })))

  pub stands_nowhere : ((p : ℕ) → p < 8 → ¬ (far_of house t s p ≡ node a)) → false ≡ stands house t a s
  stands_nowhere none =
      same-T false (stands house t a s) (λ h. absurd h)
      (λ h. let w = (in-stands house t a s).0 h in none w.port (port-of house t a s w.port w.there).port-in w.there)

-- ---- the first that passes a test

module _ (n : ℕ) (f : ℕ → Bool) where
  pub first_hit : (i : ℕ) → i < n → ((k : ℕ) → k < i → f k ≡ false) → f i ≡ true → Some i ≡ least_at n f
  first_hit i l none hit = passed-some (record { bound = omega arith; none = λ k m h. subst T (none k m) h }) l (T_true hit)

  pub first_none : ((k : ℕ) → k < n → f k ≡ false) → None ≡ least_at n f
  first_none none = passed_none (record { bound = omega arith; none = λ k m h. subst T (none k m) h }) (omega arith)

-- ---- the switch that the search goes on from, its ports below p gone over

module _ (far : ℕ → ℕ → Far) (size a : ℕ) where
  pub record Going (room next s deeper : ℕ) (order depth : List ℕ) (found p : ℕ) : Type 0 where
    pub few : size ≤ room
    pub places : length order ≡ room
    pub depths : length depth ≡ room
    pub below : get_or depth s 0 + 1 ≡ deeper
    pub going : Expanding far size a s order depth found next p

module _ {far : ℕ → ℕ → Far} {size a : ℕ} where
  pub going_start : {room next s : ℕ} {order depth : List ℕ} {reached : ℕ} → size ≤ room → length order ≡ room → length depth ≡ room
      → next < reached → Queue far size a order depth reached next → s ≡ get_or order next 0 → Going far size a room next s (get_or depth s 0 + 1) order depth reached 0
  going_start {next = next} {order = order} {depth = depth} {reached = reached} few places depths there queue here = record {
    few = few;
    places = places;
    depths = depths;
    below = refl;
    going = subst (λ (u : ℕ). Expanding far size a u order depth reached next 0) (sym here) (queue-begin queue there);
  }

  module _ {room next s deeper : ℕ} {order depth : List ℕ} {found p : ℕ} (g : Going far size a room next s deeper order depth found p) where
    seen : zero < get_or depth s 0
    seen = subst (λ (u : ℕ). zero < get_or depth u 0) g.going.here (g.going.queue.listed next g.going.there)

    pub going_skip : ((u : ℕ) → far s p ≡ switch u → get_or depth u 0 ≡ 0 → ⊥) → Going far size a room next s deeper order depth found (p + 1)
    going_skip h = record {
      few = g.few;
      places = g.places;
      depths = g.depths;
      below = g.below;
      going = rw add-one (queue-skip g.going (λ u e. let n = h u e in omega arith));
    }

    module _ {v : ℕ} (link : far s p ≡ switch v) (inside : v < size) (fresh : get_or depth v 0 ≡ 0) where
      pub going_room : found < room
      going_room = let r = queue-room g.going.queue inside fresh in let f = g.few in omega arith

      pub going_new : Going far size a room next s deeper (set order found v) (set depth v deeper) (found + 1) (p + 1)
      going_new = record {
        few = g.few;
        places = length-set order found v ∙ g.places;
        depths = length-set depth v deeper ∙ g.depths;
        below = rw (get_or-set_other depth v s deeper 0 (λ e. let k = ap (λ (w : ℕ). get_or depth w 0) e in let h = seen in omega arith)) g.below;
        going =
            let e : deeper ≡ suc (get_or depth s 0) = let b = g.below in omega arith in
            let l = going_room in
            let f = g.few in
            let i = g.places in
            let j = g.depths in
            rw (add-one found, add-one p, e) (queue-add g.going link inside fresh (omega arith) (omega arith));
      }

    pub going_end : Wired far size → 8 ≤ p → p ≤ 8 → Queue far size a order depth found (suc next)
    going_end wired l m = let e : p ≡ 8 = omega arith in queue-next (subst (λ (q : ℕ). Expanding far size a s order depth found next q) e g.going) wired
