-- How the search meets the target: the first switch in its order at which the target stands is at the distance, since the order goes
-- from near to far; where none has it, no list leads there. Assumes nothing.
use Prim.Native.Nat.{ℕ, zero, suc, ◌*◌, ◌/◌, ◌≤◌, ◌<◌}
use native.Mathlib.Decide.{dec_le}
use native.Mathlib.Omega.{arith}
use mathlib.Core.Path.{◌≡◌, refl, sym, ap, ◌∙◌, subst}
use mathlib.Core.Bool.{Bool, false, ◌&&◌, not}
use mathlib.Core.List.{List, []}
use lib.Dec.{T, eqb, ltb, not_T}
use lib.ListN.{get_or}
use borrow.Author.Tests.{lt-ltb, le-ltb, eq-eqb, ne_eqb}
use Rattle.rules.specs.Answers.{number, place}
use Rattle.rules.specs.declared.Refusal.{Refusal}
use Rattle.rules.specs.declared.Refusal.TheVariants.{NotAttached, SameNode, Unreachable}
use Rattle.std.specs.Prelude.{Option, Some, None, Ok, Err}
use Rattle.rules.specs.Sets.{least}
use Rattle.rules.specs.Net.{Distance, node}
use Rattle.rules.specs.Table.{house, far_of, switches, kind_at}
use Rattle.rules.specs.Look.{first, least_at}
use Rattle.rules.specs.Run.{dist_to}
use Rattle.rules.specs.RunTable.{stands, attached, home, is_entry_of}
use Rattle.rules.specs.RunPair.{distance, look_apart}
use Rattle.rules.proofs.SetLaws.{and_i, true-T, T_and, least-is, not-lt}
use Rattle.rules.proofs.Says.{first-none, first_some}
use Rattle.rules.proofs.Tables.{far_of-wired}
use Rattle.rules.proofs.Homes.{in-stands}
use Rattle.wiring.proofs.Found.{least_at-some, least_at_none, find-attached, find-home}
use Rattle.ways.specs.declared.Met.{Met}
use Rattle.ways.specs.Search.{Searched}
use Rattle.ways.specs.Inner.{Meets}
use Rattle.ways.proofs.Forward.{depth-distance, depth-dist_to, unreachable-dist_to}

pub nothing_said : first [] ≡ record { number = 0; place = 0 }
unfolding first
nothing_said = refl

module _ (t : List ℕ) (a d : ℕ) where
  -- ---- the rows 4 to 6

  pub apart-missing : ¬ (T (attached house t a) × T (attached house t d)) → first (look_apart house t a d []) ≡ record { number = 4; place = 0 }
  apart-missing h = first_some 4 (not (attached house t a && attached house t d)) _ (true-T _ (not_T (attached house t a && attached house t d) (λ k. h (T_and (attached house t a) (attached house t d) k))))

  module _ (h : T (attached house t a)) (k : T (attached house t d)) where
    both : not (attached house t a && attached house t d) ≡ false
    both = ap not (true-T (attached house t a && attached house t d) (and_i (attached house t a) (attached house t d) h k))

    pub apart-same : a ≡ d → first (look_apart house t a d []) ≡ record { number = 5; place = 0 }
    apart-same e = first-none 4 _ _ both ∙ first_some 5 (eqb a d) _ (eq-eqb a d e)

    pub apart-far : ¬ (a ≡ d) → distance house t a d ≡ suc (switches t) → first (look_apart house t a d []) ≡ record { number = 6; place = 0 }
    apart-far e m = first-none 4 _ _ both ∙ first-none 5 (eqb a d) _ (ne_eqb a d e) ∙ first_some 6 (ltb (switches t) (distance house t a d)) _ (lt-ltb (switches t) (distance house t a d) (omega arith))

    pub apart-met : ¬ (a ≡ d) → distance house t a d ≤ switches t → first (look_apart house t a d []) ≡ record { number = 0; place = 0 }
    apart-met e m = first-none 4 _ _ both ∙ first-none 5 (eqb a d) _ (ne_eqb a d e) ∙ first-none 6 (ltb (switches t) (distance house t a d)) [] (le-ltb (switches t) (distance house t a d) m) ∙ nothing_said

  -- ---- where the search meets it

  module _ (h : ℕ) (order depth : List ℕ) (reached : ℕ) (s : Searched (far_of house t) (switches t) h order depth reached) where
    abbrev at : ℕ → Bool
    at i = stands house t d (get_or order i 0)

    -- a reached switch with the target stands in the order, not before the first
    behind : (u q : ℕ) → far_of house t u q ≡ node d → zero < get_or depth u 0 → (j : ℕ) × (j < reached) × (get_or order j 0 ≡ u) × (least reached at ≤ j)
    behind u q e l =
        let j = s.found u l in
        (j.0, j.1, j.2, not-lt (λ m. (least-is reached at).before j.0 m ((in-stands house t d (get_or order j.0 0)).1 (record { port = q; there = ap (λ (x : ℕ). far_of house t x q) j.2 ∙ e }))))

    pub meet-far : least reached at ≡ reached → dist_to (far_of house t) (switches t) d h ≡ suc (switches t)
    meet-far e = unreachable-dist_to (far_of house t) (switches t) (far_of-wired house t) s.depths d none
      where
        none : (u q : ℕ) → far_of house t u q ≡ node d → get_or depth u 0 ≡ 0
        none u q f = go (dec_le (get_or depth u 0) 0)
          where
            go : Dec (get_or depth u 0 ≤ 0) → get_or depth u 0 ≡ 0
            go (yes l) = omega arith
            go (no l) = let j = behind u q f (omega arith) in let m = j.1 in let n = j.3 in absurd (omega arith)

    module _ (l : least reached at < reached) where
      i : ℕ
      i = least reached at

      before : (u q : ℕ) → far_of house t u q ≡ node d → zero < get_or depth u 0 → get_or depth (get_or order i 0) 0 ≤ get_or depth u 0
      unfolding i
      before u q e m = let j = behind u q e m in subst (λ (x : ℕ). get_or depth (get_or order i 0) 0 ≤ get_or depth x 0) j.2 (s.rising i j.0 j.3 j.1)

      pub meet-near : (dist_to (far_of house t) (switches t) d h ≡ get_or depth (get_or order (least reached at) 0) 0) × Distance (far_of house t) h d (get_or depth (get_or order (least reached at) 0) 0)
      unfolding i
      meet-near =
          let w = (in-stands house t d (get_or order i 0)).0 ((least-is reached at).hit l) in
          let n = get_or depth (get_or order i 0) 0 in (
            depth-dist_to (far_of house t) (switches t) (far_of-wired house t) s.depths d (get_or order i 0) w.port n w.there refl (s.listed i l) before,
            depth-distance (far_of house t) s.depths d (get_or order i 0) w.port n w.there refl (s.listed i l) before,
          )

  -- ---- so the answers of meet

  pub meets-refused : (e : Refusal) → first (look_apart house t a d []) ≡ record { number = number e; place = place e } → Meets t a d (Err e)
  meets-refused e f = record { answer = sym f; met = tt }

  -- where a processor was looked for
  abbrev pub Looks : ℕ → Option ℕ → Type 0
  Looks x o = o ≡ least_at (8 * switches t) (λ k. is_entry_of x (kind_at house t k))

  stands-nowhere : (x : ℕ) → Looks x None → T (attached house t x) → ⊥
  stands-nowhere x e h = let l = (find-attached house t x).0 h in let m = least_at_none (8 * switches t) (λ k. is_entry_of x (kind_at house t k)) e in omega arith

  stands-there : (x k : ℕ) → Looks x (Some k) → T (attached house t x)
  stands-there x k e = let w = least_at-some (8 * switches t) (λ k. is_entry_of x (kind_at house t k)) e in (find-attached house t x).1 (let q = w.0 in let l = w.1 in omega arith)

  pub no_source : Looks a None → Meets t a d (Err NotAttached)
  no_source n = meets-refused NotAttached (apart-missing (λ k. stands-nowhere a n k.0))

  pub no_target : Looks d None → Meets t a d (Err NotAttached)
  no_target n = meets-refused NotAttached (apart-missing (λ k. stands-nowhere d n k.1))

  -- both stand somewhere
  module _ {i j : ℕ} (here : Looks a (Some i)) (there : Looks d (Some j)) where
    pub same-node : a ≡ d → Meets t a d (Err SameNode)
    same-node e = meets-refused SameNode (apart-same (stands-there a i here) (stands-there d j there) e)

    pub home-inside : i / 8 < switches t
    home-inside = let l = (least_at-some (8 * switches t) (λ k. is_entry_of a (kind_at house t k)) here).1 in omega arith

    at_home : home house t a ≡ i / 8
    at_home = find-home house t a ∙ ap (λ (x : ℕ). x / 8) (sym (least_at-some (8 * switches t) (λ k. is_entry_of a (kind_at house t k)) here).0)

    -- and were searched for
    module _ (apart : ¬ (a ≡ d)) {order depth : List ℕ} {reached : ℕ} (s : Searched (far_of house t) (switches t) (i / 8) order depth reached) where
      far-off : distance house t a d ≡ dist_to (far_of house t) (switches t) d (i / 8)
      unfolding distance
      far-off = ap (dist_to (far_of house t) (switches t) d) at_home

      -- no switch of the order has it
      pub not_found : None ≡ least_at reached (λ i. stands house t d (get_or order i 0)) → Meets t a d (Err Unreachable)
      not_found e =
          let b = (least-is reached (λ i. stands house t d (get_or order i 0))).bound in
          let m = least_at_none reached (λ i. stands house t d (get_or order i 0)) e in
          meets-refused Unreachable (apart-far (stands-there a i here) (stands-there d j there) apart (far-off ∙ meet-far (i / 8) order depth reached s (omega arith)))

      -- the first that has it is at place k
      module _ {k : ℕ} (first-at : Some k ≡ least_at reached (λ i. stands house t d (get_or order i 0))) where
        placed : (k ≡ least reached (λ i. stands house t d (get_or order i 0))) × (k < reached)
        placed = least_at-some reached (λ i. stands house t d (get_or order i 0)) first-at

        pub found-small : switches t ≤ 64 → (k < 64) × (get_or order k 0 < 64)
        found-small few = let x = placed.1 in let y = s.inside (get_or order k 0) (s.listed k x) in let b = s.few in (omega arith, omega arith)

        pub met-there : {m : Met} → m.home ≡ i / 8 → m.distance ≡ get_or depth (get_or order k 0) 0
            → m.found.order ≡ order → m.found.depth ≡ depth → m.found.reached ≡ reached → Meets t a d (Ok m)
        met-there {m} h f p q w =
            let l : least reached (λ i. stands house t d (get_or order i 0)) < reached = let e = placed.0 in let x = placed.1 in omega arith in
            let v = meet-near (i / 8) order depth reached s l in
            let y : get_or depth (get_or order (least reached (λ i. stands house t d (get_or order i 0))) 0) 0 ≡ m.distance =
            ap (λ (x : ℕ). get_or depth (get_or order x 0) 0) (sym placed.0) ∙ sym f in
            let x : distance house t a d ≡ m.distance = far-off ∙ v.0 ∙ y in
            let b : get_or depth (get_or order k 0) 0 ≤ switches t = s.small (get_or order k 0) in
            let z : Distance (far_of house t) (i / 8) d m.distance = subst (Distance (far_of house t) (i / 8) d) y v.1 in
            record {
              answer = sym (apart-met (stands-there a i here) (stands-there d j there) apart (omega arith));
              met = (
                h ∙ sym at_home,
                sym x,
                record {
                  searched = rw (h, p, q, w) s;
                  distance = rw h z;
                },
              );
            }
