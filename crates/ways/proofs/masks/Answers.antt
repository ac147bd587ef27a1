-- `ways::masks` is the judge, the pair and then the room; the masks of the pair are written over the start of out. Assumes nothing.
use Rattle.rules.specs.Table.{house, switches}
use Rattle.rules.proofs.Answers.{handed-on}
use Rattle.ways.proofs.PairLaws.{judged-few, masks-refused, masks-none, masks-short, masks-made}
use Rattle.std.proofs.Common.{refl}
use Rattle.ways.proofs.masks.Goals as goal

pub returns-in_err-judge : goal.returns-in_err-judge
returns-in_err-judge c = rw (handed-on _ _ c.from_residual.ensures) (masks-refused house _ _ _ _ _ c.in_err-judge.ensures)

pub returns-in_err-pair : goal.returns-in_err-pair
returns-in_err-pair c = rw (handed-on _ _ c.from_residual-in_err-pair.ensures) (masks-none house _ _ _ _ c.in_ok-judge.ensures _ c.in_err-pair.ensures)

pub returns-then-out-n : goal.returns-then-out-n
unfolding switches
returns-then-out-n c = masks-short house _ _ _ _ c.in_ok-judge.ensures c.in_ok-pair.ensures c.if-out-n.true

pub shared_ref_as_front-copy_from_slice : goal.shared_ref_as_front-copy_from_slice
unfolding switches
shared_ref_as_front-copy_from_slice c = judged-few house _ 0 0 c.in_ok-judge.ensures

pub returns : goal.returns
unfolding switches
returns c =
    rw c.copy_from_slice.ensures.after
    (masks-made house _ _ _ c.in_ok-judge.ensures _ refl c.in_ok-pair.ensures refl c.if-out-n.false (judged-few house _ 0 0 c.in_ok-judge.ensures) refl)
