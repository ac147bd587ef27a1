-- What the functions that answer a pair without judging its table give, on every table: refusal 1 only where the table is too long, then
-- 4 to 6, and 7. Assumes nothing.
--
--   measure_pair z t a d      the distance of a pair
--   pair_of z t a d           its distance, the source's switch and all masks, for a pair at most eight hops apart
--   paired r                  what a result is in these numbers; zeros with a refusal
use Rattle.std.specs.Prelude.{ℕ, Result, Ok, Err, ◌*◌, cond, List, [], ◌∷◌, length, replicate, ltb}
use Rattle.rules.specs.Answers.{number, place, Judgement, Answer, refused, measured}
use Rattle.rules.specs.declared.Refusal.{Refusal}
use Rattle.ways.specs.declared.Pair.{Pair}
use Rattle.rules.specs.Sets.{tabulate}
use Rattle.rules.specs.Table.{Sizes}
use Rattle.rules.specs.Look.{Looked, first, when, accepted, answered}
use Rattle.rules.specs.RunTable.{home}
use Rattle.rules.specs.RunPair.{distance, mask, look_apart, look7}

pub record PairAnswer : Type 0 where
  pub answer : Answer
  pub home : ℕ
  pub masks : List ℕ

abbrev pub paired : Result Pair Refusal → PairAnswer
paired (Ok p) = record { answer = measured (Ok p.distance); home = p.home; masks = p.masks }
paired (Err e) = record { answer = refused (number e) (place e); home = 0; masks = replicate 64 0 }

module _ (z : Sizes) (t : List ℕ) (a d : ℕ) where
  abbrev pub look_long : Looked
  look_long = (1, when (ltb (8 * z.most) (length t)))

  unfoldable pub measure_pair : Answer
  measure_pair = answered (first (look_long ∷ look_apart z t a d [])) (distance z t a d) 0 0

  unfoldable pub pair_judgement : Judgement
  pair_judgement = first (look_long ∷ look_apart z t a d (look7 z t a d ∷ []))

  unfoldable pub pair_of : PairAnswer
  pair_of =
      let j = pair_judgement in
      let m = tabulate z.most (mask z t a d) in
      let s = home z t a in
      record { answer = answered j (distance z t a d) 0 0; home = cond (accepted j) s 0; masks = cond (accepted j) m (replicate z.most 0) }
