use Rattle.header.proofs.LeafLaws.{member_lt}
use Rattle.header.proofs.ScanLaws.{takes_out, left_on, common_on}
use Rattle.header.proofs.Net.common_of.Goals as goal

pub bounds-self-s : goal.bounds-self-s
bounds-self-s c =
    let left = c.loop-s.invariant.0 in
    member_lt 64 _ _ left.wide (left.inside _ c.in-Some.ensures.steps.here)

pub loop-s-preserved : goal.loop-s-preserved
loop-s-preserved c =
    let left = c.loop-s.invariant.0 in
    let step = takes_out c.in-Some.ensures.steps in
    (left_on left step, common_on _ _ left step c.loop-s.invariant.1)
