-- `header::Switches` gives the switches of a set: each call takes out the lowest that is left. Assumes nothing.
use Rattle.std.proofs.Common.{arith}
use lib.Bits.{and_le_l}
use Rattle.header.proofs.ScanLaws.{leaves_lowest, takes_out, leaves_less}
use Rattle.header.proofs.SwitchesIterator.next.Goals as goal

pub returns-clause-steps : goal.returns-clause-steps
returns-clause-steps c = leaves_lowest _ (omega arith) c.if-self-eq0.false

pub returns-clause-goes : goal.returns-clause-goes
returns-clause-goes c = record {
  on = λ h. (tt, tt, leaves_less _ _ _ (takes_out (leaves_lowest _ (omega arith) c.if-self-eq0.false)) (and_le_l _ _));
  keeps = tt;
  rests = λ h. tt;
}
