-- The judge's answer from what its tests found: the first of the three refusals that applies, with its place. Each case goes down the list
-- of `judge_of`, which keeps the promise by judged-met. Assumes nothing.
use Prim.Native.Nat.{ℕ, ◌≤◌, ◌%◌}
use mathlib.Core.Path.{◌≡◌, sym, subst}
use mathlib.Core.Bool.{false}
use mathlib.Core.List.{List}
use borrow.Author.Tests.{le-ltb, eq-eqb, ne_eqb}
use lib.ListN.{length}
use Rattle.std.specs.Prelude.{Option, Some, None}
use Rattle.rules.specs.Answers.{Judgement}
use Rattle.rules.specs.Table.{house, WrongLength}
use Rattle.rules.specs.Look.{pick, first, when, least_at}
use Rattle.rules.specs.RunTable.{bad_length, bad_at, again, judge_of}
use Rattle.rules.specs.Promise.{Judged}
use Rattle.rules.proofs.SetLaws.{true-T}
use Rattle.rules.proofs.Tables.{in-length}
use Rattle.rules.proofs.Kept.{judged-met}

module _ (t : List ℕ) where
  told : {r : Judgement} → judge_of house t ≡ r → Judged house t r
  told e = subst (Judged house t) e (judged-met house t)

  pub length-refused : WrongLength house t → Judged house t (record { number = 1; place = 0 })
  unfolding judge_of first pick when
  length-refused w = told (simp (true-T (bad_length house t) ((in-length house t).1 w)))

  pub length-right : (length t ≡ 0 → ⊥) → length t ≤ 512 → length t % 8 ≡ 0 → bad_length house t ≡ false
  unfolding bad_length
  length-right some few whole = simp (ne_eqb (length t) 0 some, le-ltb 512 (length t) few, eq-eqb (length t % 8) 0 whole)

  module _ (right : bad_length house t ≡ false) {bad : Option ℕ} (b : bad ≡ least_at (length t) (bad_at house t)) where
    pub bad-refused : {i : ℕ} → bad ≡ Some i → Judged house t (record { number = 2; place = i })
    unfolding judge_of first pick when
    bad-refused e = told (simp (right, sym b, e))

    module _ (none : bad ≡ None) {twice : Option ℕ} (a : twice ≡ least_at (length t) (again house t)) where
      pub again-refused : {i : ℕ} → twice ≡ Some i → Judged house t (record { number = 3; place = i })
      unfolding judge_of first pick when
      again-refused e = told (simp (right, sym b, none, sym a, e))

      pub accepted : twice ≡ None → Judged house t (record { number = 0; place = 0 })
      unfolding judge_of first pick when
      accepted e = told (simp (right, sym b, none, sym a, e))
