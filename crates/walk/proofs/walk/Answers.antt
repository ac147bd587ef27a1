-- `walk::walk` meets its contract. The tests go down the refusals in their order, each return is the first that applies, and past them the
-- source stands at a switch from which the walk can be made. Assumes nothing.
use mathlib.Core.Path.{sym, ◌∙◌}
use Rattle.rules.proofs.Answers.{handed-on}
use Rattle.walk.proofs.Answers.{Located, table-refused, unattached-refused, long-refused, few-refused, few-switches, walkable, walk-told}
use Rattle.walk.proofs.walk.Goals as goal
use Rattle.walk.proofs.walk.Goals.{In-Some}

-- what is known after the call of `find`
located : (c : In-Some) → let a = c.args in Located a.table.now a.source c.in-Some.at
located c = record { judgement = c.in_ok-judge.ensures; found = sym c.in-Some.is ∙ c.find.ensures }

pub returns-in_err-judge : goal.returns-in_err-judge
returns-in_err-judge c = rw (handed-on _ _ c.from_residual.ensures) (table-refused _ _ _ _ _ c.in_err-judge.ensures)

pub returns-in_default : goal.returns-in_default
returns-in_default c = unattached-refused _ _ _ _ c.in_ok-judge.ensures (sym c.in_default.is ∙ c.find.ensures)

pub returns-then-header-gt8 : goal.returns-then-header-gt8
returns-then-header-gt8 c = long-refused _ _ _ _ (located (goal.at.returns-then-header-gt8 c).In-Some) c.if-header-gt8.true

pub returns-then-choices-header : goal.returns-then-choices-header
returns-then-choices-header c = few-refused _ _ _ _ (located (goal.at.returns-then-choices-header c).In-Some) c.if-header-gt8.false c.if-choices-header.true

pub invariant_of-from_switch : goal.invariant_of-from_switch
invariant_of-from_switch c = record { few = few-switches c.in_ok-judge.ensures }

pub from_switch-requires : goal.from_switch-requires
from_switch-requires c = walkable _ _ _ _ (located (goal.at.from_switch-requires c).In-Some) c.if-header-gt8.false c.if-choices-header.false

pub returns : goal.returns
returns c = walk-told _ _ _ _ (located (goal.at.returns c).In-Some) c.if-header-gt8.false c.if-choices-header.false _ c.from_switch.ensures
