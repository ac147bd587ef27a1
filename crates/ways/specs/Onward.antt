-- The mask of one switch, from the masks of the switches one further on. Assumes nothing.
--
--   ahead d last depth masks n x     x, where a port of a switch at depth n leads, is on a shortest way: node d itself, at the last
--                                    switch, or a switch one further from the source that has a mask
use Rattle.std.specs.Prelude.{ℕ, suc, Bool, false, ◌&&◌, List, get_or, eqb, ltb}
use Rattle.rules.specs.Sets.{set_of}
use Rattle.rules.specs.Net.{Far, switch, node, nothing}

unfoldable pub ahead : ℕ → Bool → List ℕ → List ℕ → ℕ → Far → Bool
ahead d last depth masks n (switch v) = eqb (get_or depth v 0) (suc n) && ltb 0 (get_or masks v 0)
ahead d last depth masks n (node a) = last && eqb a d
ahead d last depth masks n nothing = false

unfoldable pub onward_of : (ℕ → ℕ → Far) → ℕ → ℕ → Bool → List ℕ → List ℕ → ℕ
onward_of far s d last depth masks = set_of 8 (λ p. ahead d last depth masks (get_or depth s 0) (far s p))
