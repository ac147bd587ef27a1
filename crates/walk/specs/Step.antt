-- What one hop gives, and the walk's answer from where it stopped. Assumes nothing.
--
--   step_of far s w c     one hop from switch s by the word w and the choice byte c
--   stopped e            the answer of a walk that stopped so
--   Walkable t s ws cs   the walk from switch s can be made: s is a switch, there are at most eight words, and a choice byte for each
use Rattle.std.specs.Prelude.{ℕ, ◌≤◌, ◌<◌, cond, List, length, eqb}
use Rattle.rules.specs.Answers.{WalkAnswer}
use Rattle.walk.specs.declared.Step.{Step}
use Rattle.walk.specs.declared.Step.TheVariants.{Moved, Arrived, Off, Empty}
use Rattle.rules.specs.Net.{Far, switch, node, nothing}
use Rattle.rules.specs.Table.{switches}
use Rattle.rules.specs.Walk.{port}
use Rattle.rules.specs.RunWalk.{Stop}

unfoldable pub crossing : Far → Step
crossing (switch t) = Moved t
crossing (node a) = Arrived a
crossing nothing = Off

unfoldable pub step_of : (ℕ → ℕ → Far) → ℕ → ℕ → ℕ → Step
step_of far s w c = cond (eqb w 0) Empty (crossing (far s (port w c)))

unfoldable pub stopped : Stop → WalkAnswer
stopped e = record { number = 0; place = 0; ending = e.ending; at = e.at; hops = e.hops; left = e.left }

pub record Walkable (t : List ℕ) (s : ℕ) (ws cs : List ℕ) : Type 0 where
  pub there : s < switches t
  pub few : length ws ≤ 8
  pub enough : length ws ≤ length cs
