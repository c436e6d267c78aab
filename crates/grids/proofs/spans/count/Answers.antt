-- `grids::spans::count` meets its contract: n is the product of the first a lengths.
use native.Mathlib.Omega.{arith}
use Rattle.grids.proofs.Loops.{multiplying-start, multiplying-fits, multiplying-more, multiplying-done}
use Rattle.grids.proofs.spans.count.Goals as goal

pub loop-a-init : goal.loop-a-init
loop-a-init c = multiplying-start c.args.axes c.args.s c.requires

pub overflow_sub-s : goal.overflow_sub-s
overflow_sub-s c = omega (arith, c.requires.order c.loop-a.a c.loop-a-test.true)

pub times-n-requires : goal.times-n-requires
times-n-requires c = multiplying-fits c.args.axes c.args.s c.requires c.loop-a.n c.loop-a.a c.loop-a.invariant c.loop-a-test.true

pub loop-a-preserved : goal.loop-a-preserved
loop-a-preserved c = multiplying-more c.args.axes c.args.s c.requires c.loop-a.n c.loop-a.a c.loop-a.invariant c.loop-a-test.true c.times-n.result c.times-n.ensures

pub returns : goal.returns
returns c = multiplying-done c.args.axes c.args.s c.requires c.loop-a.n c.loop-a.a c.loop-a.invariant c.loop-a-test.false
