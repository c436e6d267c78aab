-- `tree::first_from` meets its contract.
use native.Mathlib.Omega.{arith}
use mathlib.Core.Path.{sym, ◌∙◌}
use Rattle.tree.proofs.Finding.{split-start, split-low, split-high, split_done}
use Rattle.tree.proofs.first_from.Goals as goal

pub loop-low-init : goal.loop-low-init
loop-low-init c = split-start _ _ _

pub overflow_sub-middle : goal.overflow_sub-middle
overflow_sub-middle c = omega (arith, c.loop-low-test.true)

pub bounds-key-middle : goal.bounds-key-middle
bounds-key-middle c = omega (arith, c.loop-low-test.true, c.loop-low.invariant.most)

pub comes_before-requires : goal.comes_before-requires
comes_before-requires c = c.requires

pub overflow_add-low : goal.overflow_add-low
overflow_add-low c = omega (arith, c.loop-low-test.true, c.loop-low.invariant.most)

pub loop-low-smaller-then-comes_before : goal.loop-low-smaller-then-comes_before
loop-low-smaller-then-comes_before c = omega (arith, c.loop-low-test.true)

pub loop-low-preserved-then-comes_before : goal.loop-low-preserved-then-comes_before
loop-low-preserved-then-comes_before c = split-low _ _ _ c.loop-low.low c.loop-low.high _ c.loop-low.invariant (omega (arith, c.loop-low-test.true)) (sym c.comes_before.ensures ∙ c.if-comes_before.true)

pub loop-low-smaller : goal.loop-low-smaller
loop-low-smaller c = omega (arith, c.loop-low-test.true)

pub loop-low-preserved : goal.loop-low-preserved
loop-low-preserved c = split-high _ _ _ c.loop-low.low c.loop-low.high _ c.loop-low.invariant (omega (arith, c.loop-low-test.true)) (omega (arith, c.loop-low-test.true)) (sym c.comes_before.ensures ∙ c.if-comes_before.false)

pub returns : goal.returns
returns c = split_done _ _ _ _ _ c.loop-low.invariant c.loop-low-test.false
