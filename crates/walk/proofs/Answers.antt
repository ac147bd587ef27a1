-- The walk's answer from what its tests found: the judge's refusal, or else the first of refusals 4, 10 and 11 that applies, or else where the
-- walk stopped. Each case goes down the list of `walk_of`, which keeps the promise by walked-met. Assumes nothing.
use Prim.Native.Nat.{ℕ, ◌*◌, ◌/◌, ◌≤◌, ◌<◌}
use native.Mathlib.Omega.{arith}
use mathlib.Core.Path.{◌≡◌, refl, sym, ap, ◌∙◌, subst}
use mathlib.Core.Bool.{true, false, not}
use mathlib.Core.List.{List, [], ◌∷◌}
use borrow.Author.Tests.{lt-ltb, le-ltb, ne_eqb}
use lib.ListN.{length}
use lib.Dec.{ltb}
use Rattle.std.specs.Prelude.{Some, None, Ok, Err}
use Rattle.rules.specs.declared.Refusal.{Refusal}
use Rattle.rules.specs.declared.Refusal.TheVariants.{NotAttached, LongHeader, FewChoices}
use Rattle.rules.specs.declared.WalkEnd.{WalkEnd}
use Rattle.rules.specs.Answers.{number, place, Judgement, WalkAnswer, judged, walked}
use Rattle.rules.proofs.Answers.{number-some}
use Rattle.rules.specs.Sets.{least}
use Rattle.rules.specs.Table.{house, switches, kind_at, far_of}
use Rattle.rules.specs.Refusals.{most_hops}
use Rattle.rules.specs.Look.{Looked, pick, first, when, least_at, accepted}
use Rattle.rules.specs.RunTable.{is_entry_of, judge_of, attached, home}
use Rattle.rules.specs.RunWalk.{walk_from, walk_judgement, walk_of}
use Rattle.rules.specs.Walk.{Walked}
use Rattle.rules.specs.Promise.{Judged}
use Rattle.rules.proofs.SetLaws.{true-T, same-T}
use Rattle.rules.proofs.Tables.{sound-length}
use Rattle.rules.proofs.WalkPromise.{walked-met}
use Rattle.walk.specs.Step.{stopped, Walkable}
use Rattle.wiring.proofs.Found.{least_at-some, least_at_none, judge-refuses, judge-accepts, judge-is, judge-sound, find-attached, find-home}

-- the judge has accepted the table, and `find` has found index i for processor a
pub record Located (t : List ℕ) (a i : ℕ) : Type 0 where
  pub judgement : Judged house t (record { number = 0; place = 0 })
  pub found : Some i ≡ least_at (8 * switches t) (λ k. is_entry_of a (kind_at house t k))

-- a table that is accepted is a fabric
pub few-switches : {t : List ℕ} → Judged house t (record { number = 0; place = 0 }) → switches t ≤ 64
few-switches {t} j = (sound-length house t (judge-sound house t j refl)).1

module _ (t : List ℕ) (a : ℕ) (ws cs : List ℕ) where
  told : {r : WalkAnswer} → r ≡ walk_of house t a ws cs → Walked house t a ws cs r
  told e = subst (Walked house t a ws cs) (sym e) (walked-met house t a ws cs)

  refusal : (e : Refusal) → walk_judgement house t a ws cs ≡ record { number = number e; place = place e } → Walked house t a ws cs (walked (Err e))
  unfolding walk_of accepted
  refusal e s = told (simp (s, ne_eqb (number e) 0 (λ z. let l = number-some e in omega arith)))

  -- refusals 4, 10 and 11, as they are looked for
  abbrev later : List Looked
  later = (4, when (not (attached house t a))) ∷ (10, when (ltb most_hops (length ws))) ∷ (11, when (ltb (length cs) (length ws))) ∷ []

  pub table-refused : (e : Refusal) → Judged house t (judged {A = Unit {0}} (Err e)) → Walked house t a ws cs (walked (Err e))
  unfolding walk_judgement
  table-refused e h =
      let s = judge-is house t h in
      refusal e (judge-refuses house t later (λ z. let l = number-some e in let k : number e ≡ (judge_of house t).number = ap (λ (x : Judgement). x.number) s in omega arith) ∙ sym s)

  module _ (j : Judged house t (record { number = 0; place = 0 })) where
    rest : walk_judgement house t a ws cs ≡ first later
    unfolding walk_judgement
    rest = judge-accepts house t later (sym (ap (λ (x : Judgement). x.number) (judge-is house t j)))

    pub unattached-refused : None ≡ least_at (8 * switches t) (λ k. is_entry_of a (kind_at house t k)) → Walked house t a ws cs (walked (Err NotAttached))
    unfolding first pick when
    unattached-refused e =
        let m = least_at_none (8 * switches t) (λ k. is_entry_of a (kind_at house t k)) e in
        let none : attached house t a ≡ false = same-T (attached house t a) false (λ h. let l = (find-attached house t a).0 h in omega arith) (λ h. absurd h) in
        refusal NotAttached (rest ∙ simp none)

  module _ {i : ℕ} (f : Located t a i) where
    at : (i ≡ least (8 * switches t) (λ k. is_entry_of a (kind_at house t k))) × (i < 8 * switches t)
    at = least_at-some (8 * switches t) (λ k. is_entry_of a (kind_at house t k)) f.found

    here : attached house t a ≡ true
    here = true-T (attached house t a) ((find-attached house t a).1 (let same = at.0 in let l = at.1 in omega arith))

    pub long-refused : 8 < length ws → Walked house t a ws cs (walked (Err LongHeader))
    unfolding first pick when
    long-refused l = refusal LongHeader (rest f.judgement ∙ simp (here, lt-ltb 8 (length ws) l))

    module _ (short : length ws ≤ 8) where
      pub few-refused : length cs < length ws → Walked house t a ws cs (walked (Err FewChoices))
      unfolding first pick when
      few-refused l = refusal FewChoices (rest f.judgement ∙ simp (here, le-ltb 8 (length ws) short, lt-ltb (length cs) (length ws) l))

      module _ (enough : length ws ≤ length cs) where
        pub walkable : Walkable t (i / 8) ws cs
        walkable =
            let whole = (sound-length house t (judge-sound house t f.judgement refl)).2 in
            let l = at.1 in
            record { there = omega arith; few = short; enough = enough }

        pub walk-told : (w : WalkEnd) → walked (Ok w) ≡ stopped (walk_from (far_of house t) ws cs (i / 8) 0) → Walked house t a ws cs (walked (Ok w))
        unfolding walk_of accepted first pick when stopped
        walk-told w e =
            let none : walk_judgement house t a ws cs ≡ record { number = 0; place = 0 } =
            rest f.judgement ∙ simp (here, le-ltb 8 (length ws) short, le-ltb (length cs) (length ws) enough) in
            let there : home house t a ≡ i / 8 = find-home house t a ∙ ap (λ (k : ℕ). k / 8) (sym at.0) in
            told (e ∙ simp (none, there))
