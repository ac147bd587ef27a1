use Prim.Native.Nat.{◌<◌}
use native.Mathlib.Omega.{arith}
use lib.ListN.{length}
use Rattle.rules.specs.Table.{switches}
use Rattle.wiring.proofs.Laws.{passed-one, passed-some, passed_none, stands-told, stands-not, stands-other}
use Rattle.wiring.proofs.find.Goals as goal
use Rattle.wiring.proofs.find.Goals.{in-Node+else-a-node, in_default}

pub returns-then-a-node : goal.returns-then-a-node
unfolding switches
returns-then-a-node c =
    passed-some c.loop-i.invariant c.loop-i-test.true (stands-told _ _ (omega arith) _ c.entry.ensures c.in-Node.is c.if-a-node.true)

pub loop-i-preserved : goal.loop-i-preserved
unfolding switches
loop-i-preserved c =
    let inside : c.loop-i.i < length c.args.table.now = omega arith in
    passed-one c.loop-i.invariant c.loop-i-test.true
    (elim c.match-entry.branch [
      | in-Node+else-a-node w ↦ stands-not _ _ inside _ c.entry.ensures w.in-Node.is w.if-a-node.false
      | in_default w ↦ stands-other _ _ inside _ c.entry.ensures w.in_default.not-Node
    ])

pub returns : goal.returns
unfolding switches
returns c = passed_none c.loop-i.invariant c.loop-i-test.false
