-- The judge's answer at the head of a longer list of refusals, and what `find` found: the least index with the processor is at the least
-- switch with it, since index i is port i % 8 of switch i / 8. Assumes nothing.
use Prim.Native.Nat.{ℕ, ◌+◌, ◌*◌, ◌/◌, ◌%◌, ◌≤◌, ◌<◌}
use native.Mathlib.Omega.{arith}
use mathlib.Core.Path.{◌≡◌, refl, sym, ap, ◌∙◌, subst}
use mathlib.Core.Logic.{◌↔◌}
use mathlib.Core.Bool.{Bool, true, false, cond}
use mathlib.Core.List.{List, [], ◌++◌}
use lib.Dec.{T, ltb, ltb→lt, lt→ltb}
use Rattle.std.specs.Prelude.{Option, Some, None, is_some, unwrap_or}
use Rattle.rules.specs.Answers.{Judgement}
use Rattle.rules.specs.Sets.{least}
use Rattle.rules.specs.Table.{Sizes, Sound, switches, kind_at, leads}
use Rattle.rules.specs.Look.{Looked, first, least_at}
use Rattle.rules.specs.RunTable.{is_entry_of, look_table, judge_of, stands, attached, home}
use Rattle.rules.specs.Promise.{Judged}
use Rattle.rules.specs.Refusals.{of_table}
use Rattle.rules.proofs.Says.{Placed, says-clear, Numbered, first-stop, first_past}
use Rattle.rules.proofs.Joined.{table-placed, clear-sound}
use Rattle.rules.proofs.SetLaws.{T_true, any-yes, any_some, Least, least-is, least-one, least_under, not-lt}
use Rattle.rules.proofs.Tables.{far-entry}
use Rattle.rules.proofs.Homes.{is-entry, port-of, in-stands}
use Rattle.rules.proofs.Kept.{judged-met}
use Rattle.rules.proofs.Only.{judged-only}

-- ---- the judge's answer comes first

module _ (z : Sizes) (t : List ℕ) where
  pub judge-refuses : (ls : List Looked) → ¬ ((judge_of z t).number ≡ 0) → first (look_table z t ++ ls) ≡ judge_of z t
  unfolding judge_of
  judge-refuses ls h = first-stop (look_table z t) ls h

  pub judge-accepts : (ls : List Looked) → (judge_of z t).number ≡ 0 → first (look_table z t ++ ls) ≡ first ls
  unfolding judge_of Numbered
  judge-accepts ls h = first_past (look_table z t) ls (omega arith, (omega arith, (omega arith, tt))) h

  -- where it accepts, the table is sound
  pub judge-sound : {r : Judgement} → Judged z t r → r.number ≡ 0 → Sound z t
  unfolding Placed
  judge-sound {r} h e = (clear-sound z t [] (says-clear (of_table z t ++ []) (table-placed z t [] tt) r.number r.place h.answer e)).0

  -- what keeps the judge's promise is the judge's answer
  pub judge-is : {r : Judgement} → Judged z t r → r ≡ judge_of z t
  judge-is {r} h = judged-only z t r (judge_of z t) h (judged-met z t)

  pub judge-number : {r : Judgement} → Judged z t r → r.number ≡ (judge_of z t).number
  judge-number h = ap (λ (x : Judgement). x.number) (judge-is h)

-- ---- the index found

-- what is found is the least, and nothing where there is none
module _ (n : ℕ) (f : ℕ → Bool) where
  pub least_at-some : {i : ℕ} → Some i ≡ least_at n f → (i ≡ least n f) × (i < n)
  unfolding least_at
  least_at-some {i} e = at (ltb (least n f) n) refl e
    where
      at : (b : Bool) → ltb (least n f) n ≡ b → Some i ≡ cond b (Some (least n f)) None → (i ≡ least n f) × (i < n)
      at true l h = let q : i ≡ least n f = ap (λ (o : Option ℕ). unwrap_or o 0) h in let m = ltb→lt (least n f) n (T_true l) in (q, omega arith)
      at false l h = let q : true ≡ false = ap is_some h in absurd (subst T q tt)

  pub least_at_none : None ≡ least_at n f → n ≤ least n f
  unfolding least_at
  least_at_none e = at (ltb (least n f) n) refl e
    where
      at : (b : Bool) → ltb (least n f) n ≡ b → None ≡ cond b (Some (least n f)) None → n ≤ least n f
      at true l h = let q : false ≡ true = ap is_some h in absurd (subst T (sym q) tt)
      at false l h = not-lt (λ m. subst T l (lt→ltb (least n f) n m))

module _ (z : Sizes) (t : List ℕ) (a : ℕ) where
  -- the processor stands at index i
  abbrev here : ℕ → Bool
  here i = is_entry_of a (kind_at z t i)

  found-stands : (i : ℕ) → i < 8 * switches t → T (here i) → T (stands z t a (i / 8))
  unfolding leads
  found-stands i l h = (in-stands z t a (i / 8)).1 (record { port = i % 8; there = far-entry z t i l ∙ ap leads ((is-entry a (kind_at z t i)).0 h) })

  stands-found : (s : ℕ) → T (stands z t a s) → (p : ℕ) × (p < 8) × (s < switches t) × T (here (8 * s + p))
  stands-found s h =
      let w = (in-stands z t a s).0 h in
      let o = port-of z t a s w.port w.there in
      (w.port, o.port-in, o.switch-in, (is-entry a (kind_at z t (8 * s + w.port))).1 o.entry)

  pub find-attached : T (attached z t a) ↔ (least (8 * switches t) (λ i. is_entry_of a (kind_at z t i)) < 8 * switches t)
  unfolding attached
  find-attached = (
    λ h. let j = any_some (switches t) (stands z t a) h in
        let w = stands-found j.0 j.2 in
        let m = least_under (least-is (8 * switches t) here) w.3 in
        let l = w.1 in let k = w.2 in omega arith,
    λ h. let i = least (8 * switches t) here in
        any-yes (switches t) (stands z t a) (i / 8) (omega arith) (found-stands i h ((least-is (8 * switches t) here).hit h)),
  )

  -- the least index is at the least switch
  found-least : {i : ℕ} → Least (8 * switches t) here i → Least (switches t) (stands z t a) (i / 8)
  found-least {i} h = record {
    bound = let b = h.bound in omega arith;
    before = λ j l k. let w = stands-found j k in let m = w.1 in h.before (8 * j + w.0) (omega arith) w.3;
    hit = λ l. let b : i < 8 * switches t = omega arith in found-stands i b (h.hit b);
  }

  pub find-home : home z t a ≡ least (8 * switches t) (λ i. is_entry_of a (kind_at z t i)) / 8
  unfolding home
  find-home = least-one (least-is (switches t) (stands z t a)) (found-least (least-is (8 * switches t) here))
