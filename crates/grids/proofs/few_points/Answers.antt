-- `grids::few_points` meets its contract: n is the product of the first a shapes.
use native.Mathlib.Omega.{arith}
use Rattle.grids.proofs.Sized.{multiplied-none, multiplied-fits, multiplied-more, multiplied-over, multiplied-all}
use Rattle.grids.proofs.few_points.Goals as goal

pub loop-a-init : goal.loop-a-init
loop-a-init c = multiplied-none c.args.axes c.args.g c.requires.1

pub returns-then-s-n : goal.returns-then-s-n
returns-then-s-n c = multiplied-over c.args.axes c.args.g c.requires.1 c.loop-a.n c.loop-a.a c.loop-a.invariant c.loop-a-test.true c.if-s-n.true

pub overflow_mul-n : goal.overflow_mul-n
overflow_mul-n c = omega (arith, multiplied-fits c.args.axes c.args.g c.requires.1 c.loop-a.n c.loop-a.a c.loop-a.invariant c.if-s-n.false)

pub loop-a-preserved : goal.loop-a-preserved
loop-a-preserved c = multiplied-more c.args.axes c.args.g c.requires.1 c.loop-a.n c.loop-a.a c.loop-a.invariant c.loop-a-test.true c.if-s-n.false

pub returns : goal.returns
returns c = multiplied-all c.args.axes c.args.g c.requires.1 c.loop-a.n c.loop-a.a c.loop-a.invariant c.loop-a-test.false
