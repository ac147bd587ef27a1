use Rattle.wiring.proofs.Laws.{passed-one, passed-some, passed_none, bad-told, bad-not}
use Rattle.wiring.proofs.first_bad.Goals as goal

pub returns-in-Bad : goal.returns-in-Bad
returns-in-Bad c = passed-some c.loop-i.invariant c.loop-i-test.true (bad-told _ _ c.loop-i-test.true c.entry.ensures c.in-Bad.is)

pub loop-i-preserved : goal.loop-i-preserved
loop-i-preserved c = passed-one c.loop-i.invariant c.loop-i-test.true (bad-not _ _ c.loop-i-test.true c.entry.ensures c.in_default.not-Bad)

pub returns : goal.returns
returns c = passed_none c.loop-i.invariant c.loop-i-test.false
