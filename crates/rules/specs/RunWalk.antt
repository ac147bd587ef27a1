-- The twin of the walk. Nothing here has to be believed (see Run). Assumes nothing.
--
--   walk_from far ws cs s h     the walk from switch s with these words and choice bytes, after h hops
--   walk_of z t a ws cs         the operation's answer
use Rattle.std.specs.Prelude.{ℕ, suc, cond, not, List, [], ◌∷◌, ◌++◌, length, get_or, drop, eqb, ltb}
use Rattle.rules.specs.Answers.{Judgement, Ending, None, Delivered, Leftover, Empty, Off, Short, WalkAnswer}
use Rattle.rules.specs.Net.{Far, switch, node, nothing}
use Rattle.rules.specs.Table.{Sizes, far_of}
use Rattle.rules.specs.Refusals.{most_hops}
use Rattle.rules.specs.Walk.{port}
use Rattle.rules.specs.Look.{first, when, accepted}
use Rattle.rules.specs.RunTable.{look_table, attached, home}

-- how a walk ended, where, after how many hops, with how many words left
pub record Stop : Type 0 where
  pub ending : Ending
  pub at : ℕ
  pub hops : ℕ
  pub left : ℕ

unfoldable pub arrived : List ℕ → Ending
arrived [] = Delivered
arrived (w ∷ ws) = Leftover

-- what comes of a hop, by what the port leads to
unfoldable pub cross : Far → (ℕ → Stop) → (ℕ → Stop) → Stop → Stop
cross (switch t) go stop lost = go t
cross (node n) go stop lost = stop n
cross nothing go stop lost = lost

unfoldable pub walk_from : (ℕ → ℕ → Far) → List ℕ → List ℕ → ℕ → ℕ → Stop
walk_from far [] cs s h = record { ending = Short; at = s; hops = h; left = 0 }
walk_from far (w ∷ ws) cs s h =
    let moved : Stop
    = cross (far s (port w (get_or cs 0 0)))
    (λ t. walk_from far ws (drop 1 cs) t (suc h))
    (λ n. record { ending = arrived ws; at = n; hops = suc h; left = length ws })
    (record { ending = Off; at = s; hops = h; left = suc (length ws) }) in
    cond (eqb w 0) (record { ending = Empty; at = s; hops = h; left = suc (length ws) }) moved

module _ (z : Sizes) (t : List ℕ) (a : ℕ) (ws cs : List ℕ) where
  unfoldable pub walk_judgement : Judgement
  walk_judgement = first (look_table z t ++ ((4, when (not (attached z t a))) ∷ (10, when (ltb most_hops (length ws))) ∷ (11, when (ltb (length cs) (length ws))) ∷ []))

  unfoldable pub walk_of : WalkAnswer
  walk_of =
      let j = walk_judgement in
      let e = walk_from (far_of z t) ws cs (home z t a) 0 in
      let r : WalkAnswer = record { number = j.number; place = j.place; ending = e.ending; at = e.at; hops = e.hops; left = e.left } in
      cond (accepted j) r (record { number = j.number; place = j.place; ending = None; at = 0; hops = 0; left = 0 })
