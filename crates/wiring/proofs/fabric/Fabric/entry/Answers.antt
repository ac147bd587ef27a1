-- `Fabric::entry` meets its contract: it gives what stands at the port; where the entry leads, so does the port, and a link's switch is one of
-- the table; a port that there is not leads nowhere. Assumes nothing.
use Prim.Native.Nat.{◌<◌}
use native.Mathlib.Omega.{arith}
use Rattle.rules.specs.Table.{switches}
use Rattle.wiring.proofs.Reading.{entry_is, entry_missing, entry_leads, entry_none, entry_inside}
use Rattle.wiring.proofs.fabric.Fabric.entry.Goals as goal
use Rattle.wiring.proofs.fabric.Fabric.entry.Goals.{Joined-else-s-n, else-s-n-via-then-s-n+else-p-lt8, else-s-n-via-else-s-n}

-- there is no such switch, or no such port
missing : (c : Joined-else-s-n) → ¬ ((c.args.s < switches c.args.self.now.table.now) × (c.args.p < 8))
unfolding switches
missing c i =
    elim c.else-s-n.branch [
      | else-s-n-via-then-s-n+else-p-lt8 w ↦ let k = i.1 in let l = w.if-p-lt8.false in omega arith
      | else-s-n-via-else-s-n w ↦ let k = i.0 in let l = w.if-s-n.false in omega arith
    ]

pub returns-then-p-lt8-clause-is : goal.returns-then-p-lt8-clause-is
unfolding switches
returns-then-p-lt8-clause-is c = entry_is _ _ _ c.if-s-n.true c.if-p-lt8.true c.entry.ensures

pub returns-then-p-lt8-clause-inside : goal.returns-then-p-lt8-clause-inside
unfolding switches
returns-then-p-lt8-clause-inside c =
    entry_inside _ _ _ c.entry.result c.args.self.now.few (entry_leads _ _ _ c.if-s-n.true c.if-p-lt8.true c.entry.ensures)

pub returns-else-s-n-clause-is : goal.returns-else-s-n-clause-is
returns-else-s-n-clause-is c = entry_missing _ _ _ (missing c)

pub returns-else-s-n-clause-leads : goal.returns-else-s-n-clause-leads
returns-else-s-n-clause-leads c = entry_none _ _ _ (missing c)
