use mathlib.Core.Path.{refl, ap}
use Rattle.rules.specs.Table.{house}
use Rattle.rules.proofs.Tables.{far_of-wired}
use Rattle.header.specs.declared.Switches.{Switches}
use Rattle.header.proofs.ScanLaws.{takes_out, left_start, left_on}
use Rattle.header.proofs.FollowLaws.{follows-start, follows-all, link-followed, none-followed}
use Rattle.header.proofs.Net.follow.Goals as goal

pub loop-s-init : goal.loop-s-init
loop-s-init c =
    let all = ap (λ (x : Switches). x.0) c.into_iter-s-iterator.ensures.into_iter_gives in (left_start c.ranges.set.fits all, follows-start _ _ _ all)

pub loop-s-preserved-in-Switch : goal.loop-s-preserved-in-Switch
loop-s-preserved-in-Switch c =
    let met = c.loop-s.invariant in
    let step = takes_out c.in-Some.ensures.steps in (
      left_on met.0 step,
      link-followed _ _ _ c.entry.ensures.leads c.entry.ensures.inside c.in-Switch.is refl met.0 step met.1 refl,
    )

pub loop-s-preserved : goal.loop-s-preserved
loop-s-preserved c =
    let met = c.loop-s.invariant in
    let step = takes_out c.in-Some.ensures.steps in (
      left_on met.0 step,
      none-followed _ _ _ c.entry.ensures.leads c.in_default.not-Switch met.0 step met.1 refl,
    )

pub returns : goal.returns
returns c = follows-all _ _ _ (far_of-wired house _) c.in-None.ensures.steps c.loop-s.invariant.1
