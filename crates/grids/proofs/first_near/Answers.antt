-- `grids::first_near` meets its contract: the answer stays between lo and lo + n.
use native.Mathlib.Omega.{arith}
use mathlib.Core.Path.{sym, ◌∙◌}
use Rattle.grids.proofs.Halving.{between_start, between-end, between-past, between-short}
use Rattle.grids.proofs.first_near.Goals as goal

pub overflow_sub-n : goal.overflow_sub-n
overflow_sub-n c = omega (arith, c.requires.low, c.requires.high)

pub loop-n-init : goal.loop-n-init
loop-n-init c = between_start c.args.f c.args.g c.args.a c.args.x c.args.from c.args.to c.requires

pub overflow_add-reach : goal.overflow_add-reach
overflow_add-reach c = omega (arith, c.reached-k.ensures, c.loop-n.invariant.within, c.requires.axis.few)

pub overflow_add-reach-in-loop-n : goal.overflow_add-reach-in-loop-n
overflow_add-reach-in-loop-n c = omega (arith, c.reached-k.ensures, c.loop-n.invariant.within, c.requires.axis.few)

pub overflow_add-lo : goal.overflow_add-lo
overflow_add-lo c = omega (arith, c.skipped-skip.ensures, c.loop-n.invariant.within, c.requires.axis.few)

pub comes_before-requires : goal.comes_before-requires
comes_before-requires c = (c.requires.axis.few_axes, omega (arith, c.skipped-skip.ensures, c.loop-n.invariant.within, c.requires.axis.few), c.requires.wall)

pub overflow_add-lo-then-comes_before : goal.overflow_add-lo-then-comes_before
overflow_add-lo-then-comes_before c = omega (arith, c.skipped-skip.ensures, c.loop-n.invariant.within, c.requires.axis.few)

pub overflow_add-lo-then-comes_before-2 : goal.overflow_add-lo-then-comes_before-2
overflow_add-lo-then-comes_before-2 c = omega (arith, c.skipped-skip.ensures, c.loop-n.invariant.within, c.requires.axis.few)

pub overflow_sub-n-then-comes_before : goal.overflow_sub-n-then-comes_before
overflow_sub-n-then-comes_before c = omega (arith, c.skipped-skip.ensures, c.loop-n.invariant.within, c.requires.axis.few)

pub overflow_sub-n-then-comes_before-2 : goal.overflow_sub-n-then-comes_before-2
overflow_sub-n-then-comes_before-2 c = omega (arith, c.skipped-skip.ensures, c.loop-n.invariant.within, c.requires.axis.few)

pub loop-n-smaller-then-comes_before : goal.loop-n-smaller-then-comes_before
loop-n-smaller-then-comes_before c = omega (arith, c.skipped-skip.ensures)

pub loop-n-preserved-then-comes_before : goal.loop-n-preserved-then-comes_before
loop-n-preserved-then-comes_before c = between-past c.args.f c.args.g c.args.a c.args.x c.requires.axis c.loop-n.lo c.loop-n.n c.skipped-skip.result c.loop-n.invariant c.skipped-skip.ensures (sym c.comes_before.ensures ∙ c.if-comes_before.true)

pub loop-n-smaller : goal.loop-n-smaller
loop-n-smaller c = omega (arith, c.skipped-skip.ensures)

pub loop-n-preserved : goal.loop-n-preserved
loop-n-preserved c = between-short c.args.f c.args.g c.args.a c.args.x c.requires.axis c.loop-n.lo c.loop-n.n c.skipped-skip.result c.loop-n.invariant c.skipped-skip.ensures (sym c.comes_before.ensures ∙ c.if-comes_before.false)

pub returns : goal.returns
returns c = between-end c.args.f c.args.g c.args.a c.args.x c.loop-n.lo c.loop-n.n c.loop-n-test.false c.loop-n.invariant
