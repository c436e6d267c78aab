-- `row_sums::run_sum` meets its contract.
use native.Mathlib.Omega.{arith}
use Rattle.row_sums.proofs.Runs.{run-start, run-place, run_index, run_fits, run_more, run-done}
use Rattle.row_sums.proofs.run_sum.Goals as goal

pub loop-i-init : goal.loop-i-init
loop-i-init c = run-start c.args.indices.now c.args.readings.now c.args.from c.args.count c.requires

pub overflow_add-sum : goal.overflow_add-sum
overflow_add-sum c = omega (arith, run-place c.args.indices.now c.args.readings.now c.args.from c.args.count c.requires _ c.loop-i-test.true, c.well_formed.0)

pub offset_bounds-indices-from : goal.offset_bounds-indices-from
offset_bounds-indices-from c = omega (arith, run-place c.args.indices.now c.args.readings.now c.args.from c.args.count c.requires _ c.loop-i-test.true, c.well_formed.0)

pub bounds-indices-from : goal.bounds-indices-from
bounds-indices-from c = run-place c.args.indices.now c.args.readings.now c.args.from c.args.count c.requires _ c.loop-i-test.true

pub offset_bounds-readings-indices : goal.offset_bounds-readings-indices
offset_bounds-readings-indices c = omega (arith, run_index c.args.indices.now c.args.readings.now c.args.from c.args.count c.requires _ c.loop-i-test.true, c.well_formed.1.0)

pub bounds-readings-indices : goal.bounds-readings-indices
bounds-readings-indices c = run_index c.args.indices.now c.args.readings.now c.args.from c.args.count c.requires _ c.loop-i-test.true

pub overflow_add-sum-in-loop-i : goal.overflow_add-sum-in-loop-i
overflow_add-sum-in-loop-i c = run_fits c.args.indices.now c.args.readings.now c.args.from c.args.count c.requires _ _ c.loop-i.invariant c.loop-i-test.true

pub loop-i-preserved : goal.loop-i-preserved
loop-i-preserved c = run_more c.args.indices.now c.args.readings.now c.args.from c.args.count c.requires _ _ c.loop-i.invariant c.loop-i-test.true

pub returns : goal.returns
returns c = let all = run-done c.args.indices.now c.args.readings.now c.args.from c.args.count c.requires _ _ c.loop-i.invariant c.loop-i-test.false in record { sum = all.0; bounded = all.1 }
