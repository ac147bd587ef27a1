-- `loader::issue_over_fields` refuses a field that is no row; else it issues in the table of all rows. Assumes nothing.
use Prim.Native.Nat.{ℕ}
use native.Mathlib.Omega.{arith}
use lib.ListN.{length-take}
use Rattle.rules.proofs.Answers.{handed-on}
use Rattle.fields.proofs.ReadLaws.{room}
use Rattle.loader.proofs.Laws.{load-refused, load-within, load-issued}
use Rattle.loader.proofs.issue_over_fields.Goals as goal

pub returns-in_err-rows : goal.returns-in_err-rows
returns-in_err-rows c = rw (handed-on _ _ c.from_residual.ensures) (load-refused _ _ (room 0) _ _ _ _ _ c.in_err-rows.ensures.answer c.in_err-rows.ensures.memory)

pub slice_bounds-table-end : goal.slice_bounds-table-end
slice_bounds-table-end c = load-within _ _ (room 0) 0 0 c.args.out.now _ _ c.in_ok-rows.ensures.answer c.in_ok-rows.ensures.memory c.read_rows.auto.table

pub slice_bounds-issue-end : goal.slice_bounds-issue-end
slice_bounds-issue-end c =
    let l = load-within _ _ (room 0) 0 0 c.args.out.now _ _ c.in_ok-rows.ensures.answer c.in_ok-rows.ensures.memory c.read_rows.auto.table in
    omega (arith, length-take {A = ℕ})

pub returns : goal.returns
returns c = load-issued _ _ (room 0) _ _ _ _ _ c.in_ok-rows.ensures.answer c.in_ok-rows.ensures.memory _ _ c.issue.ensures
