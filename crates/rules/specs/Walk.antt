-- The walk of one packet: which port a choice byte takes, how a walk ends, and what the operation promises. Assumes nothing.
--
--   port w c              the permitted port with exactly (c modulo k) permitted ports below it, k the permitted ports of w
--   ports ws cs           the port that each word and its choice byte take
--   after far ws cs s i   where the walk from switch s stands after i hops
--   Ended .. e at h l     the walk ends so: at that processor or switch, after h hops, with l words left
--   Walked z t a ws cs r  the promise of the walk
use Rattle.std.specs.Prelude.{ℕ, zero, suc, ◌+◌, ◌%◌, ◌<◌, ◌≡◌, ◌&&◌, List, [], ◌∷◌, ◌++◌, length, get_or, take, eqb}
use Rattle.std.specs.Int.Count.{ones}
use Rattle.rules.specs.Answers.{Ending, None, Delivered, Leftover, Empty, Off, Short, WalkAnswer}
use Rattle.rules.specs.Sets.{has, count, least}
use Rattle.rules.specs.Net.{Far, switch, node, nothing, follow}
use Rattle.rules.specs.Table.{Sizes, far_of, Stands, Attached}
use Rattle.rules.specs.Refusals.{Says, plain, of_table, too_long, too_few}

-- 01: "uses the permitted port with exactly (choice modulo k) permitted ports below it"
unfoldable pub port : ℕ → ℕ → ℕ
port w c = least 8 (λ p. has p w && eqb (count p (λ q. has q w)) (c % ones w))

-- 01: "At each hop the switch takes the first word .. The word is then stripped."
unfoldable pub ports : List ℕ → List ℕ → List ℕ
ports [] cs = []
ports (w ∷ ws) [] = []
ports (w ∷ ws) (c ∷ cs) = port w c ∷ ports ws cs

module _ (far : ℕ → ℕ → Far) (ws cs : List ℕ) (s : ℕ) where
  abbrev pub after : ℕ → Far
  after i = follow far (take i (ports ws cs)) (switch s)

  -- 01: "DELIVERED (at a processor, no words left); LEFTOVER (at a processor, some left); EMPTY (at a switch whose word is 0); OFF (the
  -- chosen port has no link); SHORT (at a switch, no words left)."
  unfoldable pub EndsAs : Ending → ℕ → ℕ → ℕ → Type 0
  EndsAs Delivered at hops left = (after hops ≡ node at) × (left ≡ 0)
  EndsAs Leftover at hops left = (after hops ≡ node at) × (zero < left)
  EndsAs Empty at hops left = (after hops ≡ switch at) × (zero < left) × (get_or ws hops 0 ≡ 0)
  EndsAs Off at hops left = (after hops ≡ switch at) × (zero < left) × (zero < get_or ws hops 0) × (after (suc hops) ≡ nothing)
  EndsAs Short at hops left = (after hops ≡ switch at) × (left ≡ 0)
  EndsAs None at hops left = ⊥

  -- 01: "A hop is counted when a link or a processor's port has been crossed." "At EMPTY and OFF the word being read still counts as
  -- left." So hops and words left make all words; and no word before the last hop was 0.
  pub record Ended (ending : Ending) (at hops left : ℕ) : Type 0 where
    pub so : EndsAs ending at hops left
    pub words : hops + left ≡ length ws
    pub before : (i : ℕ) → i < hops → zero < get_or ws i 0

-- 01: "It refuses with 1, 2, 3, 4, 10 or 11; then the ending is NONE and its other numbers but number and place are 0."
pub record Walked (z : Sizes) (t : List ℕ) (a : ℕ) (ws cs : List ℕ) (r : WalkAnswer) : Type 0 where
  pub answer : Says (of_table z t ++ (plain 4 (¬ (Attached z t a)) ∷ too_long ws ∷ too_few ws cs ∷ [])) r.number r.place
  pub refused : ¬ (r.number ≡ 0) → (r.ending ≡ None) × (r.at ≡ 0) × (r.hops ≡ 0) × (r.left ≡ 0)
  pub walked : r.number ≡ 0 → (s : ℕ) → Stands z t a s → Ended (far_of z t) ws cs s r.ending r.at r.hops r.left
