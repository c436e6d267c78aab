-- `cell_sums::fill_sums` meets its contract.
use Rattle.cell_sums.proofs.Runs.{fill_start, fill-asks, fill-fits, fill_more, fill_done}
use native.Mathlib.Omega.{arith}
use lib.ListN.{length-set}
use mathlib.Core.Path.{refl, ◌∙◌}
use Rattle.cell_sums.proofs.fill_sums.Goals as goal

pub bounds-sums-0 : goal.bounds-sums-0
bounds-sums-0 c = omega (arith, c.requires.2)

pub loop-i-init : goal.loop-i-init
loop-i-init c = (refl, fill_start c.args.indices.now c.args.readings.now c.args.sums.now c.requires.2)

pub offset_bounds-readings-index : goal.offset_bounds-readings-index
offset_bounds-readings-index c = omega (arith, c.requires.0.indexed c.loop-i.i c.loop-i-test.true, c.well_formed.1.0)

pub bounds-readings-index : goal.bounds-readings-index
bounds-readings-index c = c.requires.0.indexed c.loop-i.i c.loop-i-test.true

pub lifted-sum-requires : goal.lifted-sum-requires
lifted-sum-requires c = fill-asks c.args.indices.now c.args.readings.now c.requires.0 c.requires.1 c.loop-i.sums c.loop-i.sum c.loop-i.i c.loop-i.invariant.1 c.loop-i-test.true

pub overflow_add-sum : goal.overflow_add-sum
overflow_add-sum c = omega (arith, fill-fits c.args.indices.now c.args.readings.now c.requires.0 c.requires.1 c.loop-i.sums c.loop-i.sum c.loop-i.i c.loop-i.invariant.1 c.loop-i-test.true _ c.lifted-sum.ensures)

pub offset_bounds-sums-i : goal.offset_bounds-sums-i
offset_bounds-sums-i c = omega (arith, c.loop-i.invariant.1.size, c.loop-i-test.true, c.well_formed.1.1.0)

pub bounds-sums-i : goal.bounds-sums-i
bounds-sums-i c = omega (arith, c.loop-i.invariant.1.size, c.loop-i-test.true)

pub loop-i-preserved : goal.loop-i-preserved
loop-i-preserved c = (length-set c.loop-i.sums _ _ ∙ c.loop-i.invariant.0, fill_more c.args.indices.now c.args.readings.now c.requires.0 c.requires.1 c.loop-i.sums c.loop-i.sum c.loop-i.i c.loop-i.invariant.1 c.loop-i-test.true _ c.lifted-sum.ensures)

pub returns : goal.returns
returns c = fill_done c.args.indices.now c.args.readings.now c.loop-i.sums c.loop-i.sum c.loop-i.i c.loop-i.invariant.1 c.loop-i-test.false
