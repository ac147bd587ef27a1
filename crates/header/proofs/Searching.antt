-- The search as the code of `seek` makes it, over its values: what holds before the loop, and one law for each way through a turn.
-- Assumes nothing.
use Prim.Native.Nat.{ℕ, suc, ◌+◌, ◌-◌, ◌^◌, ◌≤◌, ◌<◌}
use native.Mathlib.Omega.{arith}
use mathlib.Core.Path.{◌≡◌, sym, ap, ◌∙◌, subst}
use Rattle.std.specs.Prelude.{Option, Some, None}
use Rattle.std.specs.Result.{result_ok}
use mathlib.Core.List.{List}
use lib.ListN.{get_or}
use lib.Dec.{T}
use borrow.Author.Tests.{le-leb}
use Rattle.rules.specs.Net.{Far}
use Rattle.rules.specs.Table.{house, switches, far_of}
use Rattle.rules.specs.Tries.{choice, common, reach}
use Rattle.rules.proofs.Tables.{far_of-wired}
use Rattle.found.specs.declared.Found.{Found}
use Rattle.found.specs.declared.Kept.{Kept}
use Rattle.found.specs.Found.{last_found, wider_found, total_found, recalled_of, within_room}
use Rattle.header.specs.Search.{Searches, Recalls, found_of, next_choice, joined, Grouped}
use Rattle.header.proofs.LeafLaws.{common-size}
use Rattle.header.proofs.AlikeLaws.{AlikeInside, group-reach, found_alike}
use Rattle.header.proofs.LastStage.{choice-in, found-last}
use Rattle.header.proofs.Widths.{best-fine}
use Rattle.header.proofs.KeptLaws.{found-kept, recalled-found, recalled-kept}
use Rattle.header.proofs.WidestLaws.{Turn, after, cost, rest, whole, whole_is, turn-start, full_at, over-at, take_at, end-at}

module _ (t ms : List ℕ) where
  abbrev far : ℕ → ℕ → Far
  far = far_of house t

  abbrev mask : ℕ → ℕ
  mask s = get_or ms s 0

  -- what is kept at a stage with n words
  abbrev Held : ℕ → Option Kept → Type 0
  Held n k = Recalls far (switches t) mask n k

  -- what is kept of the two stages after one with n words
  abbrev pub Memory : ℕ → Option Kept → Option Kept → Type 0
  Memory n near after = Held (n - 1) near × Held (n - 1 - 1) after

  -- what the search from the set m finds
  abbrev pub Finds : ℕ → ℕ → ℕ → Option Found → Type 0
  Finds m n budget r = r ≡ found_of far (switches t) mask m n budget

  ports-common : (m ports : ℕ) → switches t ≤ 64 → m < 2 ^ switches t → ports ≡ common 64 mask m → ports ≡ common (switches t) mask m
  ports-common m ports small inside e = e ∙ common-size (switches t) mask m inside small

  -- what is told of the set m within the room, where it was searched before and where it was searched now; and what is then kept
  module _ (m n room : ℕ) where
    pub told-before : (k : Option Kept) → Held n k → {r : Option Found} → r ≡ recalled_of k m → {f g : Found} → r ≡ Some f → g ≡ f
        → {q : Option Found} → q ≡ within_room g room → Finds m n room q
    told-before k h p {f} e i j = j ∙ ap (λ (x : Found). within_room x room) i ∙ recalled-kept far (switches t) mask m n room k h f (sym p ∙ e)

    module _ {r : Option Found} (found : Finds m n room r) {f : Found} (is : r ≡ Some f) where
      pub told-now : {g : Found} → g ≡ f → {q : Option Found} → q ≡ within_room g room → Finds m n room q
      told-now i j = j ∙ ap (λ (x : Found). within_room x room) i ∙ recalled-found far (switches t) mask m n room f (sym found ∙ is)

      pub kept-now : {k : Option Kept} → k ≡ Some (record { set = m; found = f }) → Held n k
      kept-now i = subst (λ (x : Option Kept). Held n x) (sym i) (found-kept far (switches t) mask m n room f (sym found ∙ is))

  pub held_same : (n : ℕ) {j k : Option Kept} → j ≡ k → Held n k → Held n j
  held_same n e h = subst (λ (x : Option Kept). Held n x) (sym e) h

  module _ (m left budget ports : ℕ) where
    -- what is known of the set before the loop
    pub record Known (sets : List ℕ) : Type 0 where
      pub small : switches t ≤ 64
      pub searches : Searches t m left
      pub deep : left ≡ 1 → ⊥
      pub common-ports : ports ≡ common 64 mask m
      pub port-sets : Grouped far (switches t) mask m ports sets

    abbrev pub Search : Found → ℕ → ℕ → Type 0
    Search h k w = Turn ports (after far (switches t) mask m left) (cost far (switches t) mask m left) budget h k w

    pub last-stage : switches t ≤ 64 → Searches t m left → ports ≡ common 64 mask m → left ≡ 1 → (r : Found) → r ≡ last_found ports → Finds m left budget (Some r)
    last-stage small s e l r q =
        ap Some (q ∙ ap last_found (ports-common m ports small s.inside e)) ∙ sym (found-last far (switches t) mask m budget)
        ∙ ap (λ (x : ℕ). found_of far (switches t) mask m x budget) (sym l)

    -- no word is tried yet
    pub start : (r : Found) (last : ℕ) → r ≡ last_found 0 → last ≡ 0 → Search r 0 (next_choice (last + 1) ports)
    start r last p q =
        subst (λ (x : ℕ). Search r 0 (next_choice (x + 1) ports)) (sym q)
        (subst (λ (x : Found). Search x 0 (next_choice 1 ports)) (sym p)
        (turn-start ports (after far (switches t) mask m left) (cost far (switches t) mask m left) budget))

    -- the next word, or 256 where no word is left
    pub turning : (h : Found) (k last c w : ℕ) → c ≡ ports → w ≡ next_choice (last + 1) c → Search h k (next_choice (last + 1) ports) → Search h k w
    turning h k last c w p q u = subst (λ (x : ℕ). Search h k x) (sym (q ∙ ap (next_choice (last + 1)) p)) u

    module _ (sets : List ℕ) (known : Known sets) where
      is_whole : whole ports (after far (switches t) mask m left) (cost far (switches t) mask m left) budget ≡ found_of far (switches t) mask m left budget
      is_whole =
          whole_is far (switches t) mask m left ports budget (ports-common m ports known.small known.searches.inside known.common-ports)
          (let d = known.deep in let o = known.searches.some in omega arith)

      -- at the end the tries have not passed the budget, so the search is not over it
      pub ended : (h : Found) (k w : ℕ) → Search h k w → 256 ≤ w → Finds m left budget (result_ok (total_found h k budget))
      ended h k w u l =
          let e = le-leb k budget u.in-budget in
          rw e (end-at ports (after far (switches t) mask m left) (cost far (switches t) mask m left) budget h k w u l ∙ is_whole)

      pub full : (h : Found) (k w : ℕ) → Search h k w → w < 256 → k ≡ budget → Finds m left budget None
      full h k w u l e = sym (sym is_whole ∙ full_at ports (after far (switches t) mask m left) (cost far (switches t) mask m left) budget h k w u l e)

      module _ (w set : ℕ) (chosen : T (choice w ports)) (join : set ≡ joined sets w 8) where
        -- the set is alike to the one that the word reaches
        to-reach : AlikeInside far (switches t) mask (far_of-wired house t) set (reach far (switches t) m w)
        to-reach =
            subst (λ (x : ℕ). AlikeInside far (switches t) mask (far_of-wired house t) x (reach far (switches t) m w)) (sym join)
            (group-reach far (switches t) mask (far_of-wired house t) known.port-sets w (λ p. choice-in w ports p chosen))

        -- it is searched for a word less
        pub deeper : Searches t set (left - 1)
        deeper =
            let s = known.searches in
            let d = known.deep in
            record {
              inside = to-reach.left;
              some = let o = s.some in omega arith;
              few = let f = s.few in omega arith;
            }

        module _ (k : ℕ) (r : Option Found) (found : Finds set (left - 1) (budget - k - 1) r) where
          is-rest : rest ports (after far (switches t) mask m left) (cost far (switches t) mask m left) (budget - k - 1) w ≡ r
          unfolding found_of
          is-rest = sym (found ∙ found_alike far (switches t) mask (far_of-wired house t) to-reach.alike (left - 1) (budget - k - 1))

          module _ (h : Found) (u : Search h k w) (l : w < 256) (room : k ≡ budget → ⊥) where
            pub beyond : r ≡ None → Finds m left budget None
            beyond e =
                sym (sym is_whole ∙ over-at ports (after far (switches t) mask m left) (cost far (switches t) mask m left) budget h k w u l room (is-rest ∙ e))

            pub taken : (f : Found) → r ≡ Some f → (g : Found) (v : ℕ) → g ≡ wider_found h f w left → v ≡ next_choice (w + 1) ports
                → Search g (k + (1 + f.tries)) v
            taken f e g v p q =
                let s = known.searches in
                let i : suc (left - 1) ≡ left = let o = s.some in omega arith in
                subst (λ (x : Found). Search x (k + (1 + f.tries)) v) (ap (λ (x : ℕ). wider_found h f w x) i ∙ sym p)
                (subst (λ (x : ℕ). Search (wider_found h f w (suc (left - 1))) (k + (1 + f.tries)) x) (sym q)
                (take_at ports (after far (switches t) mask m left) (cost far (switches t) mask m left) budget h k w u l room
                (left - 1) (let f = s.few in let o = s.some in omega arith) (best-fine far (switches t) mask (left - 1) (reach far (switches t) m w)) f (is-rest ∙ e)))
