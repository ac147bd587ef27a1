use Rattle.std.proofs.Common.{◌≡◌, arith}
use Rattle.ways.proofs.QueueLaws.{queue-start, queue-end}
use Rattle.ways.proofs.search_from.Goals as goal

pub loop-next-init : goal.loop-next-init
loop-next-init c = queue-start 64 c.requires c.args.fabric.now.few

pub returns : goal.returns
returns c =
    let q = c.loop-next.invariant in
    let some = q.some in
    let e : c.loop-next.next ≡ c.loop-next.search.reached = omega arith in
    queue-end (rw e at q)
