-- `fields::read_rows` meets its contract: the count of rows is the rules' own, and the fields are to end behind them. Assumes nothing.
use native.Mathlib.Omega.{arith}
use Rattle.fields.proofs.Laws.{rows-within, read-rows}
use Rattle.fields.proofs.read_rows.Goals as goal

pub overflow_mul-switches : goal.overflow_mul-switches
overflow_mul-switches c = omega (arith, rows-within c.args.bytes.now)

pub returns-clause-answer : goal.returns-clause-answer
returns-clause-answer c = (read-rows _ _ _ c.read_until.ensures.answer c.read_until.ensures.memory (omega (arith, c.count_rows-switches.ensures))).0

pub returns-clause-memory : goal.returns-clause-memory
returns-clause-memory c = (read-rows _ _ _ c.read_until.ensures.answer c.read_until.ensures.memory (omega (arith, c.count_rows-switches.ensures))).1
