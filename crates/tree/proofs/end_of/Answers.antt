-- `tree::end_of` meets its contract.
use native.Mathlib.Omega.{arith}
use mathlib.Core.Path.{sym, ◌∙◌}
use Rattle.tree.proofs.EndSearch.{ending-start, ending-low, ending-high, ending-done}
use Rattle.tree.proofs.end_of.Goals as goal

pub loop-low-init : goal.loop-low-init
loop-low-init c = ending-start _ _ c.requires.0 _ c.requires.1

pub overflow_add-low : goal.overflow_add-low
overflow_add-low c = omega (arith, c.loop-low.invariant.outside, c.loop-low.invariant.inside, c.loop-low.invariant.most)

pub between-middle-requires : goal.between-middle-requires
between-middle-requires c = (c.loop-low.invariant.from, c.loop-low-test.true)

pub holds-requires : goal.holds-requires
holds-requires c = c.requires.0.axes

pub loop-low-smaller-then-holds : goal.loop-low-smaller-then-holds
loop-low-smaller-then-holds c = omega (arith, c.between-middle.ensures.0, c.between-middle.ensures.1)

pub loop-low-preserved-then-holds : goal.loop-low-preserved-then-holds
loop-low-preserved-then-holds c = ending-low _ _ c.requires.0 _ c.requires.1 c.loop-low.low c.loop-low.high _ c.loop-low.invariant c.between-middle.ensures.0 c.between-middle.ensures.1 (sym c.holds.ensures ∙ c.if-holds.true)

pub loop-low-smaller : goal.loop-low-smaller
loop-low-smaller c = omega (arith, c.between-middle.ensures.0, c.between-middle.ensures.1)

pub loop-low-preserved : goal.loop-low-preserved
loop-low-preserved c = ending-high _ _ c.requires.0 _ c.requires.1 c.loop-low.low c.loop-low.high _ c.loop-low.invariant c.between-middle.ensures.0 c.between-middle.ensures.1 (sym c.holds.ensures ∙ c.if-holds.false)

pub overflow_add-result : goal.overflow_add-result
overflow_add-result c = omega (arith, c.loop-low.invariant.outside, c.loop-low.invariant.inside, c.loop-low.invariant.most)

pub returns : goal.returns
returns c = ending-done _ _ _ _ c.loop-low.invariant c.loop-low-test.false
