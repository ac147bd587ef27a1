-- `loader::pack_test` lays the parts side by side. Assumes nothing.
use native.Mathlib.Omega.{arith}
use Rattle.rules.specs.Pack.{laid, packed_test}
use Rattle.loader.proofs.Laws.{packs-refusal, packs-values}
use Rattle.loader.proofs.pack_test.Goals as goal

pub returns-in-Ok : goal.returns-in-Ok
unfolding packed_test laid
returns-in-Ok c = rw c.in-Ok.is (packs-values _ _ (omega (arith, c.verdict_number.ensures.number, c.verdict_number.ensures.byte)))

pub returns-in-Err : goal.returns-in-Err
unfolding packed_test
returns-in-Err c = rw c.in-Err.is (packs-refusal _ _ _ c.lay_refusal.ensures)
