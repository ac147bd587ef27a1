-- The walk's answer keeps its promise and no second one does: where number 0 is said the source stands at one switch, and a walk from
-- there ends in one way. Assumes nothing.
use Prim.Native.Nat.{ℕ, ◌≤◌, ◌<◌, zero-le}
use native.Mathlib.Nat.{not-suc-le-zero}
use native.Mathlib.Decide.{ℕ_discrete}
use native.Mathlib.Omega.{arith}
use mathlib.Core.Path.{◌≡◌, refl, sym, ◌∙◌, subst}
use mathlib.Core.Logic.{◌↔◌, ⊎_elim}
use mathlib.Core.Bool.{Bool, true, false, cond, not}
use mathlib.Core.List.{List, [], ◌∷◌, ◌++◌}
use lib.Dec.{ltb, ltb→lt, lt→ltb, not_T, T_not}
use lib.ListN.{length}
use Rattle.rules.specs.Answers.{Judgement, WalkAnswer, Ending, None, Short}
use Rattle.rules.specs.Net.{Far, follow}
use Rattle.rules.specs.Table.{Sizes, far_of, Stands, Attached}
use Rattle.rules.specs.Refusals.{Refusal, plain, most_hops, of_table, too_long, too_few}
use Rattle.rules.specs.Walk.{EndsAs, Ended, Walked}
use Rattle.rules.specs.Look.{accepted}
use Rattle.rules.specs.RunTable.{attached, home}
use Rattle.rules.specs.RunWalk.{Stop, walk_from, walk_judgement, walk_of}
use Rattle.rules.proofs.SetLaws.{not-lt, dec-T}
use Rattle.rules.proofs.Says.{Told, Placed, Clear, says-step, says-end, says-clear, says-only, plain-one, plain-decides, plain-never, accepted-zero, refused-not}
use Rattle.rules.proofs.Joined.{table-says, table-placed, clear-sound}
use Rattle.rules.proofs.Homes.{home-one, in-attached, home-is}
use Rattle.rules.proofs.Walks.{walk-ended, ended-only}

-- 01: "An empty header is SHORT at the source's switch, 0 hops."
pub empty-header : (far : ℕ → ℕ → Far) (cs : List ℕ) (s : ℕ) (e : Ending) (at h l : ℕ) → Ended far [] cs s e at h l → (e ≡ Short) × (at ≡ s) × (h ≡ 0) × (l ≡ 0)
unfolding EndsAs follow
empty-header far cs s e at h l k =
    ended-only far [] cs s zero-le e Short at s h 0 l 0 k (record { so = (refl, refl); words = refl; before = λ i m. absurd (not-suc-le-zero m) })

module _ (z : Sizes) (t : List ℕ) (a : ℕ) (ws cs : List ℕ) where
  abbrev of_walk : List Refusal
  of_walk = of_table z t ++ (plain 4 (¬ (Attached z t a)) ∷ too_long ws ∷ too_few ws cs ∷ [])

  walk-told : Told of_walk (walk_judgement z t a ws cs)
  unfolding walk_judgement
  walk-told =
      table-says z t (plain 4 (¬ (Attached z t a)) ∷ too_long ws ∷ too_few ws cs ∷ []) _ (λ s.
      says-step _ _ _ _ (plain-decides 4 (¬ (Attached z t a)) (not (attached z t a)) (λ h k. T_not (attached z t a) h ((in-attached z t a).1 k), λ h. not_T (attached z t a) (λ k. h ((in-attached z t a).0 k)))) (λ n4.
      says-step _ _ _ _ (plain-decides 10 (most_hops < length ws) (ltb most_hops (length ws)) (ltb→lt most_hops (length ws), lt→ltb most_hops (length ws))) (λ n10.
      says-step _ _ _ _ (plain-decides 11 (length cs < length ws) (ltb (length cs) (length ws)) (ltb→lt (length cs) (length ws), lt→ltb (length cs) (length ws))) (λ n11. says-end))))

  walk-placed : Placed of_walk
  unfolding Placed
  walk-placed = table-placed z t (plain 4 (¬ (Attached z t a)) ∷ too_long ws ∷ too_few ws cs ∷ []) (omega arith, plain-one, (omega arith, plain-one, (omega arith, plain-one, tt)))

  -- where 0 is said: the source stands at its home alone, and there is a choice byte for each word
  record Ready : Type 0 where
    «from» : Stands z t a (home z t a)
    alone : (s : ℕ) → Stands z t a s → s ≡ home z t a
    enough : length ws ≤ length cs

  ready : (j : Judgement) → Told of_walk j → j.number ≡ 0 → Ready
  unfolding Clear
  ready j h e =
      let c = clear-sound z t (plain 4 (¬ (Attached z t a)) ∷ too_long ws ∷ too_few ws cs ∷ []) (says-clear of_walk walk-placed j.number j.place h e) in
      let w : Attached z t a = ⊎_elim (in-attached z t a).0 (λ k. absurd (plain-never c.1.0 (λ i. k ((in-attached z t a).1 i)))) (dec-T (attached z t a)) in
      record {
        «from» = home-is z t a w;
        alone = λ s i. home-one z t c.0.none-again a s (home z t a) i (home-is z t a w);
        enough = not-lt (plain-never c.1.1.1.0);
      }

  -- NONE goes with a refusal, and with nothing else
  pub walked_none : (r : WalkAnswer) → Walked z t a ws cs r → (r.ending ≡ None) ↔ ¬ (r.number ≡ 0)
  unfolding EndsAs
  walked_none r h = (
    λ e n. let w = ready (record { number = r.number; place = r.place }) h.answer n in
        subst (λ (x : Ending). EndsAs (far_of z t) ws cs (home z t a) x r.at r.hops r.left) e (h.walked n (home z t a) w.«from»).so,
    λ n. (h.refused n).0,
  )

  pub walked-met : Walked z t a ws cs (walk_of z t a ws cs)
  unfolding walk_of
  walked-met = at (accepted j) refl
    where
      j : Judgement
      j = walk_judgement z t a ws cs

      e : Stop
      e = walk_from (far_of z t) ws cs (home z t a) 0

      at : (b : Bool) → accepted j ≡ b → Walked z t a ws cs (cond b
          (record { number = j.number; place = j.place; ending = e.ending; at = e.at; hops = e.hops; left = e.left })
          (record { number = j.number; place = j.place; ending = None; at = 0; hops = 0; left = 0 }))
      at true h = record {
        answer = walk-told;
        refused = λ n. absurd (n (accepted-zero j h));
        walked = λ n s w. let r = ready j walk-told n in
            subst (λ (x : ℕ). Ended (far_of z t) ws cs x e.ending e.at e.hops e.left) (sym (r.alone s w)) (walk-ended (far_of z t) ws cs (home z t a) r.enough);
      }
      at false h = record { answer = walk-told; refused = λ n. (refl, refl, refl, refl); walked = λ n. absurd (refused-not j h n) }

  pub walked-only : (q r : WalkAnswer) → Walked z t a ws cs q → Walked z t a ws cs r → q ≡ r
  walked-only q r h k = at (ℕ_discrete q.number 0)
    where
      e : (q.number ≡ r.number) × (q.place ≡ r.place)
      e = says-only of_walk walk-placed q.number r.number q.place r.place h.answer k.answer

      same : (q.ending ≡ r.ending) × (q.at ≡ r.at) × (q.hops ≡ r.hops) × (q.left ≡ r.left) → q ≡ r
      same f = λ i. record { number = e.0 i; place = e.1 i; ending = f.0 i; at = f.1 i; hops = f.2 i; left = f.3 i }

      at : Dec (q.number ≡ 0) → q ≡ r
      at (yes n) =
          let w = ready (record { number = q.number; place = q.place }) h.answer n in
          same (ended-only (far_of z t) ws cs (home z t a) w.enough q.ending r.ending q.at r.at q.hops r.hops q.left r.left
          (h.walked n (home z t a) w.«from») (k.walked (sym e.0 ∙ n) (home z t a) w.«from»))
      at (no n) =
          let x = h.refused n in
          let y = k.refused (λ i. n (e.0 ∙ i)) in
          same (x.0 ∙ sym y.0, x.1 ∙ sym y.1, x.2 ∙ sym y.2, x.3 ∙ sym y.3)
