-- `fields::read` meets its contract: the counts are the rules' own, so the fields before the first bad one end where it says. Assumes nothing.
use native.Mathlib.Omega.{arith}
use Rattle.fields.proofs.Laws.{rows-within, pairs_counted, pairs_within, read-filled}
use Rattle.fields.proofs.read.Goals as goal

pub overflow_mul-switches : goal.overflow_mul-switches
overflow_mul-switches c = omega (arith, rows-within c.args.bytes.now, c.count_rows-switches.ensures)

pub count_fields-pairs-requires : goal.count_fields-pairs-requires
count_fields-pairs-requires c = (omega arith, omega (arith, rows-within c.args.bytes.now, c.count_rows-switches.ensures))

pub overflow_mul-switches-2 : goal.overflow_mul-switches-2
overflow_mul-switches-2 c = omega (arith, rows-within c.args.bytes.now, c.count_rows-switches.ensures)

pub overflow_mul-pairs : goal.overflow_mul-pairs
overflow_mul-pairs c = omega (arith, pairs_within _ _ _ c.count_rows-switches.ensures c.count_fields-pairs.ensures)

pub overflow_add-switches : goal.overflow_add-switches
overflow_add-switches c = omega (arith, pairs_within _ _ _ c.count_rows-switches.ensures c.count_fields-pairs.ensures)

pub returns : goal.returns
returns c = read-filled _ _ _ c.read_until.ensures.answer c.read_until.ensures.memory (omega (arith, c.count_rows-switches.ensures, pairs_counted _ _ _ c.count_rows-switches.ensures c.count_fields-pairs.ensures))
