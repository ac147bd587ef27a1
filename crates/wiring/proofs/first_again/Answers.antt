use Rattle.wiring.proofs.Laws.{passed-one, passed-some, passed_none, again-told, again-not, again-other}
use native.Mathlib.Omega.{arith}
use Rattle.wiring.proofs.first_again.Goals as goal
use Rattle.wiring.proofs.first_again.Goals.{in-Node+else-loop-j-test+else-met, in_default}

pub returns-then-met : goal.returns-then-met
returns-then-met c =
    let inside = c.loop-i-test.true in
    let lower = c.loop-j.invariant.0 c.if-met.true in
    passed-some c.loop-i.invariant inside (again-told _ _ inside c.entry.ensures c.in-Node.is lower.0 (let l = lower.1 in let m = c.loop-j.auto.j-end in omega arith) lower.2)

pub loop-i-preserved : goal.loop-i-preserved
loop-i-preserved c =
    let inside = c.loop-i-test.true in
    passed-one c.loop-i.invariant inside
    (elim c.match-entry.branch [
      | in-Node+else-loop-j-test+else-met w ↦ let all = w.loop-j-test.false in again-not _ _ inside (λ k l. w.loop-j.invariant.1 w.if-met.false k (omega arith))
      | in_default w ↦ again-other _ _ inside c.entry.ensures w.in_default.not-Node
    ])

pub returns-after-loop-i : goal.returns-after-loop-i
returns-after-loop-i c = passed_none c.loop-i.invariant c.loop-i-test.false
