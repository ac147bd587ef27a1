-- The twins of the judge and of where a processor stands. Nothing here has to be believed (see Run). Assumes nothing.
--
--   look_table, judge_of   refusals 1 to 3 with their places; the judge's answer
--   attached a, home a   whether processor a stands anywhere; its switch, or the number of switches
use Rattle.std.specs.Prelude.{ℕ, ◌*◌, ◌%◌, Bool, true, false, ◌||◌, not, List, [], ◌∷◌, length, eqb, ltb}
use Rattle.rules.specs.declared.Entry.{Entry}
use Rattle.rules.specs.declared.Entry.TheVariants.{Switch, Node, Nothing, Bad}
use Rattle.rules.specs.Answers.{Judgement}
use Rattle.rules.specs.Sets.{any, least}
use Rattle.rules.specs.Net.{Far, switch, node, nothing}
use Rattle.rules.specs.Table.{Sizes, switches, kind_at, far_of}
use Rattle.rules.specs.Look.{Looked, first, when, least_at}

unfoldable pub is_bad : Entry → Bool
is_bad (Switch s) = false
is_bad (Node a) = false
is_bad Nothing = false
is_bad Bad = true

-- the entry is this processor
unfoldable pub is_entry_of : ℕ → Entry → Bool
is_entry_of a (Switch s) = false
is_entry_of a (Node b) = eqb b a
is_entry_of a Nothing = false
is_entry_of a Bad = false

-- both are the same processor
unfoldable pub same_node : Entry → Entry → Bool
same_node e (Switch s) = false
same_node e (Node a) = is_entry_of a e
same_node e Nothing = false
same_node e Bad = false

unfoldable pub is_node : ℕ → Far → Bool
is_node a (switch s) = false
is_node a (node n) = eqb n a
is_node a nothing = false

module _ (z : Sizes) (t : List ℕ) where
  unfoldable pub bad_length : Bool
  bad_length = eqb (length t) 0 || (ltb (8 * z.most) (length t) || not (eqb (length t % 8) 0))

  unfoldable pub bad_at : ℕ → Bool
  bad_at i = is_bad (kind_at z t i)

  unfoldable pub again : ℕ → Bool
  again i = any i (λ j. same_node (kind_at z t j) (kind_at z t i))

  abbrev pub look_table : List Looked
  look_table = (1, when bad_length) ∷ (2, least_at (length t) bad_at) ∷ (3, least_at (length t) again) ∷ []

  unfoldable pub judge_of : Judgement
  judge_of = first look_table

  unfoldable pub stands : ℕ → ℕ → Bool
  stands a s = any 8 (λ p. is_node a (far_of z t s p))

  unfoldable pub attached : ℕ → Bool
  attached a = any (switches t) (stands a)

  -- the switch of processor a, or the number of switches
  unfoldable pub home : ℕ → ℕ
  home a = least (switches t) (stands a)
