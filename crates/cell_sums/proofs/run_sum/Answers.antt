-- `cell_sums::run_sum` meets its contract.
use Rattle.cell_sums.proofs.Runs.{run_up, run_is}
use native.Mathlib.Omega.{arith}
use Rattle.cell_sums.proofs.run_sum.Goals as goal

pub overflow_add-result : goal.overflow_add-result
overflow_add-result c = omega (arith, c.requires.1, c.well_formed.0)

pub offset_bounds-sums-from : goal.offset_bounds-sums-from
offset_bounds-sums-from c = omega (arith, c.requires.1, c.requires.0.size, c.well_formed.1.1.0)

pub bounds-sums-from : goal.bounds-sums-from
bounds-sums-from c = omega (arith, c.requires.1, c.requires.0.size)

pub offset_bounds-sums-from-2 : goal.offset_bounds-sums-from-2
offset_bounds-sums-from-2 c = omega (arith, c.requires.1, c.requires.0.size, c.well_formed.1.1.0)

pub bounds-sums-from-2 : goal.bounds-sums-from-2
bounds-sums-from-2 c = omega (arith, c.requires.1, c.requires.0.size)

pub overflow_sub-result : goal.overflow_sub-result
overflow_sub-result c = run_up c.args.indices.now c.args.readings.now c.args.sums.now c.requires.0 c.args.from c.args.count c.requires.1

pub returns : goal.returns
returns c = run_is c.args.indices.now c.args.readings.now c.args.sums.now c.requires.0 c.args.from c.args.count c.requires.1
