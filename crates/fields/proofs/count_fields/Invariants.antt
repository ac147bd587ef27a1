-- `fields::count_fields` meets its contract. The invariant: the fields passed stand one after another, and end within the input; so the offset
-- of the next is no more than the length, and where the loop ends k is the least at which no field stands. Assumes nothing.
use Rattle.fields.proofs.Laws.{PastFrom}
use Rattle.fields.proofs.count_fields.Given as goal

abbrev pub invariant-loop-k : goal.invariant-loop-k
invariant-loop-k l = PastFrom l.bytes l.tag l.size l.from l.most l.k
