-- The twins of the field reader, the C call and the line of a pair. Nothing here has to be believed (see Run). Assumes nothing.
--
--   rows most, pairs most        the fields of tag 1 at the start, at most `most`, and those of tag 2 after them
--   fields_of, fields_memory       the field reader's answer, and what the lent table then holds
--   call_answer, call_memory       the C call's answer before it is packed, and what the lent output then holds
--   pair_line z t a d             what `routes` prints for a pair
use Rattle.std.specs.Prelude.{ℕ, ◌+◌, ◌*◌, ◌/◌, ◌%◌, Bool, cond, ◌&&◌, not, List, [], ◌∷◌, ◌++◌, length, get_or, take, drop, replicate, eqb, ltb, leb}
use Rattle.std.specs.Prelude.{None, Some}
use Rattle.rules.specs.Answers.{Judgement, Answer, FieldAnswer}
use Rattle.rules.specs.Sets.{least, tabulate}
use Rattle.rules.specs.Table.{Sizes}
use Rattle.rules.specs.Refusals.{most_hops}
use Rattle.rules.specs.Fields.{two, offset}
use Rattle.rules.specs.Print.{line}
use Rattle.rules.specs.Look.{Looked, first, when, accepted, answered}
use Rattle.rules.specs.RunPair.{issue_answer, issue_memory}

module _ (b : List ℕ) where
  unfoldable pub is_field : ℕ → ℕ → ℕ → Bool
  is_field tag n i = eqb (get_or b i 0) tag && (eqb (two b (i + 1)) n && leb (i + 3 + n) (length b))

  unfoldable pub rows : ℕ → ℕ
  rows most = least most (λ k. not (is_field 1 16 (offset b k 0)))

  unfoldable pub pairs : ℕ → ℕ
  pairs most = least (length b) (λ p. not (is_field 2 4 (offset b (rows most) p)))

  -- the entries of the first k fields
  unfoldable pub entries : ℕ → List ℕ
  entries k = tabulate (8 * k) (λ i. two b (19 * (i / 8) + 3 + 2 * (i % 8)))

  -- 12 where the input does not end at this offset
  unfoldable pub look12 : ℕ → Looked
  look12 i = (12, cond (ltb i (length b)) (Some i) None)

  module _ (z : Sizes) where
    unfoldable pub fields_judgement : List ℕ → Judgement
    fields_judgement out = first (look12 (offset b (rows z.most) (pairs z.most)) ∷ (8, when (ltb (length out) (8 * z.most))) ∷ [])

    unfoldable pub fields_of : List ℕ → FieldAnswer
    fields_of out =
        let j = fields_judgement out in
        let r : FieldAnswer = record { number = j.number; place = j.place; switches = rows z.most; pairs = offset b (rows z.most) 0 } in
        cond (accepted j) r (record { number = j.number; place = j.place; switches = 0; pairs = 0 })

    unfoldable pub fields_memory : List ℕ → List ℕ
    fields_memory out = let o = entries (rows z.most) ++ drop (8 * rows z.most) out in cond (accepted (fields_judgement out)) o out

    -- ---- the C call: the fields are all of tag 1, and are the table
    unfoldable pub call_judgement : Judgement
    call_judgement = first (look12 (offset b (rows z.most) 0) ∷ [])

    module _ (a d : ℕ) (out : List ℕ) where
      unfoldable pub call_answer : Answer
      call_answer = let r = issue_answer z (entries (rows z.most)) a d out in cond (accepted call_judgement) r (answered call_judgement 0 0 0)

      unfoldable pub call_memory : List ℕ
      call_memory = let o = issue_memory z (entries (rows z.most)) a d out in cond (accepted call_judgement) o out

unfoldable pub pair_line : Sizes → List ℕ → ℕ → ℕ → List ℕ
pair_line z t a d =
    let out : List ℕ = replicate most_hops 0 in
    let r = issue_answer z t a d out in
    line a d r (take r.distance (issue_memory z t a d out))
