-- What a reader gives whose fields are to end at an offset, and what the reader of a table alone gives, on every input: there every field is a
-- tag 1, so a tag 2 is bad. Assumes nothing.
--
--   read_judgement .. q         of any reader whose fields are to end at the offset q: 12 where the input goes on there, or 8
--   read_of .. q, read_memory   its answer, and what the lent table then holds
--   rows_judgement, rows_of     12 at the first field that is no tag 1 or is one too many, or 8; the answer
--   rows_memory                what the lent table then holds
use Rattle.std.specs.Prelude.{ℕ, ◌*◌, cond, List, [], ◌∷◌, ◌++◌, length, drop, ltb}
use Rattle.rules.specs.Answers.{Judgement, FieldAnswer}
use Rattle.rules.specs.Table.{Sizes}
use Rattle.rules.specs.Fields.{offset}
use Rattle.rules.specs.Look.{first, when, accepted}
use Rattle.rules.specs.RunFields.{rows, entries, look12}

module _ (z : Sizes) (b out : List ℕ) (q : ℕ) where
  unfoldable pub read_judgement : Judgement
  read_judgement = first (look12 b q ∷ (8, when (ltb (length out) (8 * z.most))) ∷ [])

  unfoldable pub read_of : FieldAnswer
  read_of =
      let j = read_judgement in
      let r : FieldAnswer = record { number = j.number; place = j.place; switches = rows b z.most; pairs = offset b (rows b z.most) 0 } in
      cond (accepted j) r (record { number = j.number; place = j.place; switches = 0; pairs = 0 })

  unfoldable pub read_memory : List ℕ
  read_memory = let o = entries b (rows b z.most) ++ drop (8 * rows b z.most) out in cond (accepted read_judgement) o out

module _ (z : Sizes) (b out : List ℕ) where
  unfoldable pub rows_judgement : Judgement
  rows_judgement = first (look12 b (offset b (rows b z.most) 0) ∷ (8, when (ltb (length out) (8 * z.most))) ∷ [])

  unfoldable pub rows_of : FieldAnswer
  rows_of =
      let j = rows_judgement in
      let r : FieldAnswer = record { number = j.number; place = j.place; switches = rows b z.most; pairs = offset b (rows b z.most) 0 } in
      cond (accepted j) r (record { number = j.number; place = j.place; switches = 0; pairs = 0 })

  unfoldable pub rows_memory : List ℕ
  rows_memory = let o = entries b (rows b z.most) ++ drop (8 * rows b z.most) out in cond (accepted rows_judgement) o out
