use Rattle.std.proofs.Common.{◌≡◌, ap, ◌∙◌, get_or, arith}
use Rattle.rules.specs.Table.{house, leads}
use Rattle.rules.proofs.Tables.{far_of-wired, leads-switch}
use Rattle.wiring.proofs.Reading.{link_of, link_inside}
use Rattle.ways.proofs.SearchCode.{going_skip, going_room, going_new, going_end}
use Rattle.ways.proofs.expand.Goals as goal
use Rattle.ways.proofs.expand.Goals.{in-Switch+then-search-v-eq0, in-Switch+else-search-v-eq0, in_default}

pub returns : goal.returns
returns c = record { queue = going_end c.loop-p.invariant (far_of-wired house c.args.fabric.now.table.now) c.loop-p-test.false c.loop-p.auto.p-end }

pub bounds-search-search : goal.bounds-search-search
bounds-search-search c = going_room c.loop-p.invariant (link_of _ _ _ c.in-Switch.ensures.leads) (link_inside _ _ _ c.in-Switch.ensures.leads) c.if-search-v-eq0.true

pub loop-p-preserved : goal.loop-p-preserved
unfolding leads
loop-p-preserved c =
    elim c.match-entry.branch [
      | in-Switch+then-search-v-eq0 w ↦ rw w.search-is (going_new c.loop-p.invariant (link_of _ _ _ w.in-Switch.ensures.leads) (link_inside _ _ _ w.in-Switch.ensures.leads) w.if-search-v-eq0.true)
      | in-Switch+else-search-v-eq0 w ↦ rw w.search-is (going_skip c.loop-p.invariant (λ u e n. let k : w.in-Switch.v ≡ u = cc (link_of _ _ _ w.in-Switch.ensures.leads) in w.if-search-v-eq0.false (ap (λ x. get_or c.loop-p.search.depth x 0) k ∙ n)))
      | in_default w ↦ rw w.search-is (going_skip c.loop-p.invariant (λ u e n. w.in_default.not-Switch u (leads-switch c.entry.result u (c.entry.ensures.leads ∙ e))))
    ]

pub invariant_of-search : goal.invariant_of-search
invariant_of-search c =
    let l = going_room c.loop-p.invariant (link_of _ _ _ c.in-Switch.ensures.leads) (link_inside _ _ _ c.in-Switch.ensures.leads) c.if-search-v-eq0.true in record { few = omega arith }
