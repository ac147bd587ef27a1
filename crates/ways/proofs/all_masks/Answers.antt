use Rattle.std.proofs.Common.{refl}
use Rattle.ways.proofs.MaskCode.{written_start, written_skip, written_one, written_end}
use Rattle.ways.proofs.all_masks.Goals as goal

pub loop-i-init : goal.loop-i-init
loop-i-init c = written_start

pub loop-i-preserved-then-depth-met : goal.loop-i-preserved-then-depth-met
loop-i-preserved-then-depth-met c = written_one c.args.fabric.now.few c.requires c.loop-i.invariant c.loop-i-test.true refl c.mask_of.ensures

pub loop-i-preserved : goal.loop-i-preserved
loop-i-preserved c = written_skip c.args.fabric.now.few c.requires c.loop-i.invariant c.loop-i-test.true refl c.if-depth-met.false

pub returns : goal.returns
returns c = written_end c.args.fabric.now.few c.requires c.loop-i.invariant c.loop-i-test.false
