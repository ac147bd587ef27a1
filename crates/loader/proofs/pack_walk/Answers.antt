-- `loader::pack_walk` lays the parts side by side. Assumes nothing.
use Rattle.rules.specs.Pack.{packed_walk}
use Rattle.loader.proofs.Laws.{packs-refusal, packs-values}
use Rattle.loader.proofs.pack_walk.Goals as goal

pub returns-in-Ok : goal.returns-in-Ok
unfolding packed_walk
returns-in-Ok c = rw c.in-Ok.is (packs-values _ _ c.lay_end.ensures)

pub returns-in-Err : goal.returns-in-Err
unfolding packed_walk
returns-in-Err c = rw c.in-Err.is (packs-refusal _ _ _ c.lay_refusal.ensures)
