-- `grow::take_indices` meets its contract.
use Rattle.grow.proofs.Ending.{taking-start, taking-more, taking-done}
use Rattle.grow.proofs.take_indices.Goals as goal

pub loop-i-init : goal.loop-i-init
loop-i-init c = taking-start c.args.n c.args.work.now c.args.order.now c.requires.0 c.requires.1

pub loop-i-preserved : goal.loop-i-preserved
loop-i-preserved c = taking-more c.args.n c.args.work.now c.args.order.now c.requires.0 c.requires.1 c.loop-i.order c.loop-i.i c.loop-i.invariant c.loop-i-test.true

pub returns : goal.returns
returns c = taking-done c.args.n c.args.work.now c.args.order.now c.requires.0 c.requires.1 c.loop-i.order c.loop-i.i c.loop-i.invariant c.loop-i-test.false
