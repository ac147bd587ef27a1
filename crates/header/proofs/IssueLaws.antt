-- Header issue and the header test go down their refusals in parts: the judge, the pair, the room and the tries. So a pair answered without
-- the judge is answered as with it, where the judge accepts. Assumes nothing.
use Prim.Native.Nat.{ℕ, ◌-◌}
use mathlib.Core.Path.{◌≡◌, refl, sym, ap, ◌∙◌, subst, subst₂}
use mathlib.Core.Bool.{Bool, cond}
use mathlib.Core.List.{List, [], ◌∷◌, ◌++◌}
use lib.ListN.{length, drop, replicate}
use Rattle.std.specs.Prelude.{Err}
use Rattle.rules.specs.declared.Refusal.{Refusal}
use Rattle.rules.specs.Answers.{Judgement, Answer, TestAnswer, Verdict, Neither, No, Yes, judged, issued, tested}
use Rattle.rules.specs.Header.{permits}
use Rattle.rules.specs.Table.{Sizes}
use Rattle.rules.specs.Refusals.{most_hops}
use Rattle.rules.specs.Look.{Looked, first, accepted, answered}
use Rattle.rules.specs.RunTable.{judge_of}
use Rattle.rules.specs.RunPair.{distance, tries_of, words_of, passes_of, look_apart, look7, look8, look9, issue_judgement, issue_answer, issue_memory, test_of}
use Rattle.ways.specs.Pairs.{look_long, pair_judgement}
use Rattle.header.specs.Pairs.{issue_pair_judgement, issue_pair, issue_pair_memory, test_pair}
use Rattle.rules.specs.Promise.{Judged, Issued, Tested}
use Rattle.rules.proofs.Kept.{issued-met, tested-met}
use Rattle.rules.proofs.Says.{refused-false, first-stop, first_past, answered-accepted, answered-refused, kept-accepted, kept-refused}
use Rattle.wiring.proofs.Found.{judge-refuses, judge-is, judge-number}
use Rattle.ways.proofs.PairLaws.{bare, refuses, judged-first, five}

module _ (z : Sizes) (t : List ℕ) (a d : ℕ) where
  -- ---- header issue
  module _ (out : List ℕ) where
    abbrev rest : List Looked
    rest = look8 z t a d most_hops out ∷ look9 z t a d ∷ []

    pub issue-judged : (judge_of z t).number ≡ 0 → (issue_answer z t a d out ≡ issue_pair z t a d out) × (issue_memory z t a d out ≡ issue_pair_memory z t a d out)
    unfolding issue_answer issue_memory issue_pair issue_pair_memory issue_judgement issue_pair_judgement
    issue-judged h =
        let e = judged-first z t a d (look_apart z t a d (look7 z t a d ∷ rest)) h in (
          ap (λ (j : Judgement). answered j (distance z t a d) (permits (words_of z t a d)) (tries_of z t a d)) e,
          ap (λ (j : Judgement). cond (accepted j) (words_of z t a d ++ (replicate (most_hops - length (words_of z t a d)) 0 ++ drop most_hops out)) out) e,
        )

    pub issue-refused : ¬ ((judge_of z t).number ≡ 0) → (issue_answer z t a d out ≡ bare (judge_of z t)) × (issue_memory z t a d out ≡ out)
    unfolding issue_answer issue_memory issue_judgement
    issue-refused h =
        let e = judge-refuses z t (look_apart z t a d (look7 z t a d ∷ rest)) h in (
          ap (λ (j : Judgement). answered j (distance z t a d) (permits (words_of z t a d)) (tries_of z t a d)) e ∙ answered-refused (judge_of z t) (distance z t a d) (permits (words_of z t a d)) (tries_of z t a d) h,
          ap (λ (j : Judgement). cond (accepted j) (words_of z t a d ++ (replicate (most_hops - length (words_of z t a d)) 0 ++ drop most_hops out)) out) e ∙ kept-refused (judge_of z t) _ out h,
        )

    -- refused by the pair; or by the room or the tries, or not
    pub issue-stop : ¬ ((pair_judgement z t a d).number ≡ 0) → issue_pair_judgement z t a d out ≡ pair_judgement z t a d
    unfolding issue_pair_judgement pair_judgement
    issue-stop h = first-stop (look_long z t a d ∷ look_apart z t a d (look7 z t a d ∷ [])) rest h

    pub issue-last : (pair_judgement z t a d).number ≡ 0 → issue_pair_judgement z t a d out ≡ first (look8 z t a d most_hops out ∷ look9 z t a d ∷ [])
    unfolding issue_pair_judgement pair_judgement
    issue-last h = first_past (look_long z t a d ∷ look_apart z t a d (look7 z t a d ∷ [])) rest (five z t a d) h

    pub issue-bare : (j : Judgement) → issue_pair_judgement z t a d out ≡ j → ¬ (j.number ≡ 0) → (issue_pair z t a d out ≡ bare j) × (issue_pair_memory z t a d out ≡ out)
    unfolding issue_pair issue_pair_memory
    issue-bare j e h =
        let k : ¬ ((issue_pair_judgement z t a d out).number ≡ 0) = λ n. h (ap (λ (x : Judgement). x.number) (sym e) ∙ n) in (
          ap (λ (x : Judgement). answered x (distance z t a d) (permits (words_of z t a d)) (tries_of z t a d)) e ∙ answered-refused j (distance z t a d) (permits (words_of z t a d)) (tries_of z t a d) h,
          kept-refused (issue_pair_judgement z t a d out) _ out k,
        )

    pub issue-made : issue_pair_judgement z t a d out ≡ record { number = 0; place = 0 }
        → (issue_pair z t a d out ≡ record { number = 0; place = 0; distance = distance z t a d; count = permits (words_of z t a d); tries = tries_of z t a d })
        × (issue_pair_memory z t a d out ≡ words_of z t a d ++ (replicate (most_hops - length (words_of z t a d)) 0 ++ drop most_hops out))
    unfolding issue_pair issue_pair_memory
    issue-made e = (
      ap (λ (x : Judgement). answered x (distance z t a d) (permits (words_of z t a d)) (tries_of z t a d)) e
          ∙ answered-accepted (record { number = 0; place = 0 }) (distance z t a d) (permits (words_of z t a d)) (tries_of z t a d) refl,
      kept-accepted (issue_pair_judgement z t a d out) _ out (ap (λ (x : Judgement). x.number) e),
    )

  -- ---- the header test
  module _ (ws : List ℕ) where
    unfoldable pub saying : Judgement → TestAnswer
    saying j = let v : Verdict = cond (passes_of z t a d ws) Yes No in record { answer = answered j 0 0 0; says = cond (accepted j) v Neither }

    pub test-judged : (judge_of z t).number ≡ 0 → test_of z t a d ws ≡ test_pair z t a d ws
    unfolding test_of test_pair pair_judgement saying
    test-judged h = ap saying (judged-first z t a d (look_apart z t a d (look7 z t a d ∷ [])) h)

    pub test-bare : (j : Judgement) → ¬ (j.number ≡ 0) → saying j ≡ record { answer = bare j; says = Neither }
    unfolding saying
    test-bare j h = λ i. record { answer = answered-refused j 0 0 0 h i; says = neither i }
      where
        neither : cond {A = Verdict} (accepted j) (cond (passes_of z t a d ws) Yes No) Neither ≡ Neither
        neither = ap (λ (b : Bool). cond {A = Verdict} b (cond (passes_of z t a d ws) Yes No) Neither) (refused-false j h)

    pub test-refused : ¬ ((judge_of z t).number ≡ 0) → test_of z t a d ws ≡ record { answer = bare (judge_of z t); says = Neither }
    unfolding test_of saying
    test-refused h = ap saying (judge-refuses z t (look_apart z t a d (look7 z t a d ∷ [])) h) ∙ test-bare (judge_of z t) h

  -- ---- the ways out of `issue` and `test`: the judge, and then the pair

  pub issued-refused : (out : List ℕ) (e : Refusal) → Judged z t (judged {A = Unit {0}} (Err e)) → Issued z t a d out (issued (Err e)) out
  issued-refused out e h =
      let m = issue-refused out (refuses z t e h) in subst₂ (Issued z t a d out) (m.0 ∙ ap bare (sym (judge-is z t h))) m.1 (issued-met z t a d out)

  pub tested-refused : (ws : List ℕ) (e : Refusal) → Judged z t (judged {A = Unit {0}} (Err e)) → Tested z t a d ws (tested (Err e))
  tested-refused ws e h =
      subst (Tested z t a d ws) (test-refused ws (refuses z t e h) ∙ ap (λ (j : Judgement). record { answer = bare j; says = Neither }) (sym (judge-is z t h))) (tested-met z t a d ws)

  module _ {j : Judgement} (h : Judged z t j) where
    pub issued-given : (out : List ℕ) {r : Answer} {o : List ℕ} → j.number ≡ 0 → (r ≡ issue_pair z t a d out) × (o ≡ issue_pair_memory z t a d out) → Issued z t a d out r o
    issued-given out n e =
        let m = issue-judged out (sym (judge-number z t h) ∙ n) in subst₂ (Issued z t a d out) (m.0 ∙ sym e.0) (m.1 ∙ sym e.1) (issued-met z t a d out)

    pub tested-given : (ws : List ℕ) {r : TestAnswer} → j.number ≡ 0 → r ≡ test_pair z t a d ws → Tested z t a d ws r
    tested-given ws n e = subst (Tested z t a d ws) (test-judged ws (sym (judge-number z t h) ∙ n) ∙ sym e) (tested-met z t a d ws)
