-- `fields::read_until` meets its contract: each way out is the computed answer. Assumes nothing.
use native.Mathlib.Omega.{arith}
use Rattle.rules.proofs.FieldLaws.{rows_few}
use Rattle.fields.proofs.Laws.{rows-within, until-bad, until_short, until_whole}
use Rattle.fields.proofs.read_until.Goals as goal

pub returns-then-end-bytes-clause-answer : goal.returns-then-end-bytes-clause-answer
returns-then-end-bytes-clause-answer c = (until-bad _ _ _ c.if-end-bytes.true).0

pub returns-then-end-bytes-clause-memory : goal.returns-then-end-bytes-clause-memory
returns-then-end-bytes-clause-memory c = (until-bad _ _ _ c.if-end-bytes.true).1

pub returns-then-table-lt512-clause-answer : goal.returns-then-table-lt512-clause-answer
returns-then-table-lt512-clause-answer c = (until_short _ _ _ c.if-end-bytes.false c.if-table-lt512.true).0

pub returns-then-table-lt512-clause-memory : goal.returns-then-table-lt512-clause-memory
returns-then-table-lt512-clause-memory c = (until_short _ _ _ c.if-end-bytes.false c.if-table-lt512.true).1

pub fill-requires : goal.fill-requires
fill-requires c = omega (arith, rows_few c.args.bytes.now 64, rows-within c.args.bytes.now, c.requires)

pub overflow_cast-result : goal.overflow_cast-result
overflow_cast-result c = omega (arith, rows_few c.args.bytes.now 64, c.requires)

pub overflow_mul-result : goal.overflow_mul-result
overflow_mul-result c = omega (arith, rows_few c.args.bytes.now 64, c.requires)

pub returns-clause-answer : goal.returns-clause-answer
returns-clause-answer c = (until_whole _ _ _ _ _ c.requires c.fill.ensures c.if-end-bytes.false c.if-table-lt512.false).0

pub returns-clause-memory : goal.returns-clause-memory
returns-clause-memory c = (until_whole _ _ _ _ _ c.requires c.fill.ensures c.if-end-bytes.false c.if-table-lt512.false).1
