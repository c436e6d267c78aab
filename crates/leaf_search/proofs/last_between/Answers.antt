-- `leaf_search::last_between` meets its contract.
use Rattle.std.proofs.Common.{sym, ◌∙◌, arith}
use Rattle.leaf_search.proofs.Searching.{node-level, between-low, between-high, between_done}
use Rattle.leaf_search.proofs.last_between.Goals as goal

pub loop-low-init : goal.loop-low-init
loop-low-init c = c.requires.1

pub overflow_add-low : goal.overflow_add-low
overflow_add-low c = omega (arith, c.loop-low.invariant.apart, c.loop-low.invariant.most)

pub overflow_sub-middle : goal.overflow_sub-middle
overflow_sub-middle c = omega (arith, c.loop-low.invariant.apart)

pub bounds-key-middle : goal.bounds-key-middle
bounds-key-middle c = omega (arith, c.loop-low-test.true, c.loop-low.invariant.most)

pub begins_by-requires : goal.begins_by-requires
begins_by-requires c = (c.requires.0.axes, node-level c.args.axes c.args.key.now c.requires.0 c.args.code _ (omega (arith, c.loop-low-test.true, c.loop-low.invariant.most)))

pub loop-low-smaller-then-begins_by : goal.loop-low-smaller-then-begins_by
loop-low-smaller-then-begins_by c = omega (arith, c.loop-low-test.true)

pub loop-low-preserved-then-begins_by : goal.loop-low-preserved-then-begins_by
loop-low-preserved-then-begins_by c = between-low c.args.axes c.args.key.now c.requires.0 c.args.code c.loop-low.low c.loop-low.high _ c.loop-low.invariant (omega (arith, c.loop-low-test.true)) (sym c.begins_by.ensures ∙ c.if-begins_by.true)

pub loop-low-smaller : goal.loop-low-smaller
loop-low-smaller c = omega (arith, c.loop-low-test.true)

pub loop-low-preserved : goal.loop-low-preserved
loop-low-preserved c = between-high c.args.axes c.args.key.now c.requires.0 c.args.code c.loop-low.low c.loop-low.high _ c.loop-low.invariant (omega (arith, c.loop-low-test.true)) (omega (arith, c.loop-low-test.true)) (sym c.begins_by.ensures ∙ c.if-begins_by.false)

pub returns : goal.returns
returns c = between_done c.args.axes c.args.key.now c.requires.0 c.args.code _ _ c.loop-low.invariant c.loop-low-test.false
