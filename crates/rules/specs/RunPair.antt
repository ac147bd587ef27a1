-- The twins of the operations on a pair. Nothing here has to be believed (see Run). Assumes nothing.
--
--   look_apart, look_pair, look7, look8, look9          refusals 4 to 6, 1 to 6, and the later ones
--   measure_of, mask_answer, test_of, issue_answer        the answers of distance, mask issue, header test, header issue
--   mask_memory, issue_memory                           what the lent output then holds
use Rattle.std.specs.Prelude.{ℕ, ◌-◌, ◌^◌, Bool, cond, ◌&&◌, not, List, [], ◌∷◌, ◌++◌, length, drop, replicate, eqb, ltb}
use Rattle.std.specs.Prelude.{Option, None, Some}
use Rattle.rules.specs.Answers.{Judgement, Answer, TestAnswer, Verdict, Neither, No, Yes}
use Rattle.rules.specs.Sets.{tabulate}
use Rattle.rules.specs.Header.{permits}
use Rattle.rules.specs.Tries.{limit, tries, chooses}
use Rattle.rules.specs.Run.{dist_to, mask_of, best}
use Rattle.rules.specs.Table.{Sizes, switches, far_of}
use Rattle.rules.specs.Refusals.{most_hops}
use Rattle.rules.specs.Look.{Looked, first, when, accepted, answered}
use Rattle.rules.specs.RunTable.{look_table, attached, home}

unfoldable pub words : Option (List ℕ) → List ℕ
words None = []
words (Some ws) = ws

module _ (z : Sizes) (t : List ℕ) (a d : ℕ) where
  unfoldable pub distance : ℕ
  distance = dist_to (far_of z t) (switches t) d (home z t a)

  unfoldable pub mask : ℕ → ℕ
  mask = mask_of (far_of z t) (switches t) d (home z t a)

  unfoldable pub tries_of : ℕ
  tries_of = tries (far_of z t) (switches t) mask (distance - 1) (2 ^ home z t a)

  unfoldable pub words_of : List ℕ
  words_of = words (best (far_of z t) (switches t) mask distance (2 ^ home z t a))

  unfoldable pub passes_of : List ℕ → Bool
  passes_of ws = eqb (length ws) distance && chooses (far_of z t) (switches t) mask (2 ^ home z t a) ws

  abbrev pub look_apart : List Looked → List Looked
  look_apart ls = (4, when (not (attached z t a && attached z t d))) ∷ (5, when (eqb a d)) ∷ (6, when (ltb (switches t) distance)) ∷ ls

  abbrev pub look_pair : List Looked → List Looked
  look_pair ls = look_table z t ++ look_apart ls

  abbrev pub look7 : Looked
  look7 = (7, when (ltb most_hops distance))

  abbrev pub look8 : ℕ → List ℕ → Looked
  look8 needs out = (8, when (ltb (length out) needs))

  abbrev pub look9 : Looked
  look9 = (9, when (ltb limit tries_of))

  unfoldable pub measure_of : Answer
  measure_of = answered (first (look_pair [])) distance 0 0

  unfoldable pub mask_judgement : List ℕ → Judgement
  mask_judgement out = first (look_pair (look7 ∷ look8 (switches t) out ∷ []))

  unfoldable pub mask_answer : List ℕ → Answer
  mask_answer out = answered (mask_judgement out) distance 0 0

  unfoldable pub mask_memory : List ℕ → List ℕ
  mask_memory out = let o = tabulate (switches t) mask ++ drop (switches t) out in cond (accepted (mask_judgement out)) o out

  unfoldable pub test_of : List ℕ → TestAnswer
  test_of ws =
      let j = first (look_pair (look7 ∷ [])) in
      let v : Verdict = cond (passes_of ws) Yes No in
      record { answer = answered j 0 0 0; says = cond (accepted j) v Neither }

  unfoldable pub issue_judgement : List ℕ → Judgement
  issue_judgement out = first (look_pair (look7 ∷ look8 most_hops out ∷ look9 ∷ []))

  unfoldable pub issue_answer : List ℕ → Answer
  issue_answer out = answered (issue_judgement out) distance (permits words_of) tries_of

  unfoldable pub issue_memory : List ℕ → List ℕ
  issue_memory out =
      let o = words_of ++ (replicate (most_hops - length words_of) 0 ++ drop most_hops out) in cond (accepted (issue_judgement out)) o out
