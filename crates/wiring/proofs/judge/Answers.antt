-- `wiring::judge` meets its contract. The tests go down the refusals in their order, and each return is the first that applies.
-- Assumes nothing.
use mathlib.Core.Path.{◌≡◌}
use mathlib.Core.Logic.{inl, inr}
use mathlib.Core.Bool.{false}
use Rattle.rules.specs.Table.{house}
use Rattle.rules.specs.RunTable.{bad_length}
use Rattle.wiring.proofs.Judging.{length-refused, length-right, bad-refused, again-refused, accepted}
use Rattle.wiring.proofs.judge.Goals as goal
use Rattle.wiring.proofs.judge.Goals.{Else-length-ne0, then-length-eq0-via-then-length-eq0, then-length-eq0-via-else-length-eq0+then-length-gt512, then-length-eq0-via-else-length-eq0+else-length-gt512+then-length-ne0}

-- past the tests of the length, no refusal 1
right : (c : Else-length-ne0) → bad_length house c.args.table.now ≡ false
right c = length-right _ c.if-length-eq0.false c.if-length-gt512.false c.if-length-ne0.false

pub returns-then-length-eq0 : goal.returns-then-length-eq0
returns-then-length-eq0 c =
    length-refused _
    (elim c.then-length-eq0.branch [
      | then-length-eq0-via-then-length-eq0 w ↦ inl w.if-length-eq0.true
      | then-length-eq0-via-else-length-eq0+then-length-gt512 w ↦ inr (inl w.if-length-gt512.true)
      | then-length-eq0-via-else-length-eq0+else-length-gt512+then-length-ne0 w ↦ inr (inr w.if-length-ne0.true)
    ])

pub returns-in-Some : goal.returns-in-Some
returns-in-Some c = bad-refused _ (right (goal.at.returns-in-Some c).Else-length-ne0) c.first_bad.ensures c.in-Some.is

pub returns-in-Some-first_again : goal.returns-in-Some-first_again
returns-in-Some-first_again c =
    again-refused _ (right (goal.at.returns-in-Some-first_again c).Else-length-ne0) c.first_bad.ensures c.in_default.is c.first_again.ensures c.in-Some-first_again.is

pub returns : goal.returns
returns c =
    accepted _ (right (goal.at.returns c).Else-length-ne0) c.first_bad.ensures c.in_default.is c.first_again.ensures c.in_default-first_again.is
