-- `grow::spread_marks` meets its contract.
use native.Mathlib.Omega.{arith}
use Rattle.grow.proofs.Spreading.{spreading-start, spreading-fits, spreading-more, spreading-done}
use Rattle.grow.proofs.spread_marks.Goals as goal

pub loop-i-init : goal.loop-i-init
loop-i-init c = spreading-start c.args.n c.args.total.now c.args.own.now c.args.begin.now c.requires.0 c.requires.1 c.requires.2 c.requires.3

pub overflow_add-end : goal.overflow_add-end
overflow_add-end c = omega (arith, spreading-fits c.args.n c.args.total.now c.args.own.now c.args.begin.now c.requires.0 c.requires.1 c.requires.2 c.requires.3 c.loop-i.own c.loop-i.begin c.loop-i.total c.loop-i.at c.loop-i.i c.loop-i.invariant c.loop-i-test.true c.own_marked-owned.result c.own_marked-owned.ensures)

pub loop-i-preserved : goal.loop-i-preserved
loop-i-preserved c = spreading-more c.args.n c.args.total.now c.args.own.now c.args.begin.now c.requires.0 c.requires.1 c.requires.2 c.requires.3 c.loop-i.own c.loop-i.begin c.loop-i.total c.loop-i.at c.loop-i.i c.loop-i.invariant c.loop-i-test.true c.own_marked-owned.result c.own_marked-owned.ensures

pub returns : goal.returns
returns c = spreading-done c.args.n c.args.total.now c.args.own.now c.args.begin.now c.requires.0 c.requires.1 c.requires.2 c.requires.3 c.loop-i.own c.loop-i.begin c.loop-i.total c.loop-i.at c.loop-i.i c.loop-i.invariant c.loop-i-test.false
