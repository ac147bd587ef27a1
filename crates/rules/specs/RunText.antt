-- The twin of what `routes` prints. Nothing here has to be believed (see Run). Assumes nothing.
--
--   line_at z b i       the line of pair i of the input b
--   text_of z b         all that is printed for it
use Rattle.std.specs.Prelude.{ℕ, ◌+◌, cond, List, [], ◌∷◌, ◌++◌, length, ltb}
use Rattle.rules.specs.Answers.{Judgement}
use Rattle.rules.specs.Table.{Sizes}
use Rattle.rules.specs.Fields.{two, offset}
use Rattle.rules.specs.Print.{heading, too_long_text, bad_field_text, most_input}
use Rattle.rules.specs.Text.{lines}
use Rattle.rules.specs.Look.{first, accepted}
use Rattle.rules.specs.RunFields.{rows, pairs, entries, look12, pair_line}

module _ (z : Sizes) (b : List ℕ) where
  -- 12 at the first bad field
  unfoldable pub input_judgement : Judgement
  input_judgement = first (look12 b (offset b (rows b z.most) (pairs b z.most)) ∷ [])

  unfoldable pub line_at : ℕ → List ℕ
  line_at i =
      let at = offset b (rows b z.most) i in
      pair_line z (entries b (rows b z.most)) (two b (at + 3)) (two b (at + 5))

  unfoldable pub good_text : List ℕ
  good_text = heading ++ lines (pairs b z.most) line_at

  unfoldable pub text_of : List ℕ
  text_of =
      let read : List ℕ = cond (accepted input_judgement) good_text (bad_field_text input_judgement.place) in
      cond (ltb most_input (length b)) too_long_text read
