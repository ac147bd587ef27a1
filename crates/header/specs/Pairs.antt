-- What the functions that answer a pair without judging its table give, on every table: refusal 1 only where the table is too long, then
-- 4 to 7, 8 and 9 as the operation uses them. Assumes nothing.
--
--   issue_pair, issue_pair_memory     header issue: the answer, and what the lent output then holds
--   test_pair                       the header test
use Rattle.std.specs.Prelude.{ℕ, ◌-◌, cond, List, [], ◌∷◌, ◌++◌, length, drop, replicate}
use Rattle.rules.specs.Answers.{Judgement, Answer, TestAnswer, Verdict, Neither, No, Yes}
use Rattle.rules.specs.Header.{permits}
use Rattle.rules.specs.Table.{Sizes}
use Rattle.rules.specs.Refusals.{most_hops}
use Rattle.rules.specs.Look.{first, accepted, answered}
use Rattle.rules.specs.RunPair.{distance, tries_of, words_of, passes_of, look_apart, look7, look8, look9}
use Rattle.ways.specs.Pairs.{look_long, pair_judgement}

module _ (z : Sizes) (t : List ℕ) (a d : ℕ) where
  unfoldable pub issue_pair_judgement : List ℕ → Judgement
  issue_pair_judgement out = first (look_long z t a d ∷ look_apart z t a d (look7 z t a d ∷ look8 z t a d most_hops out ∷ look9 z t a d ∷ []))

  unfoldable pub issue_pair : List ℕ → Answer
  issue_pair out = answered (issue_pair_judgement out) (distance z t a d) (permits (words_of z t a d)) (tries_of z t a d)

  unfoldable pub issue_pair_memory : List ℕ → List ℕ
  issue_pair_memory out =
      let o = words_of z t a d ++ (replicate (most_hops - length (words_of z t a d)) 0 ++ drop most_hops out) in
      cond (accepted (issue_pair_judgement out)) o out

  unfoldable pub test_pair : List ℕ → TestAnswer
  test_pair ws =
      let j = pair_judgement z t a d in
      let v : Verdict = cond (passes_of z t a d ws) Yes No in
      record { answer = answered j 0 0 0; says = cond (accepted j) v Neither }
