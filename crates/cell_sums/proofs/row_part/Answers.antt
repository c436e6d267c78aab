-- `cell_sums::row_part` meets its contract.
use Rattle.cell_sums.proofs.Kept.{add_start, add-fits, add-more, add_done}
use native.Mathlib.Omega.{arith}
use Rattle.cell_sums.proofs.row_part.Goals as goal

pub loop-k-init : goal.loop-k-init
loop-k-init c = (c.requires.kept_2, add_start c.args.axes c.args.key.now c.args.total.now c.args.begin.now c.args.indices.now c.args.readings.now c.args.sums.now c.requires.summed.0 c.args.row.now)

pub cell_part-cell-requires : goal.cell_part-cell-requires
cell_part-cell-requires c = record { summed = c.requires.summed.0; kept_2 = c.loop-k.invariant.0 }

pub overflow_add-sum : goal.overflow_add-sum
overflow_add-sum c = omega (arith, (add-fits c.args.axes c.args.key.now c.args.total.now c.args.begin.now c.args.indices.now c.args.readings.now c.args.sums.now c.requires.summed.0 c.args.row.now c.requires.summed.1 c.loop-k.sum c.loop-k.count c.loop-k.k-index c.loop-k.invariant.1 c.loop-k-test.true _ _ c.cell_part-cell.ensures.sum c.cell_part-cell.ensures.count).0)

pub overflow_add-count : goal.overflow_add-count
overflow_add-count c = omega (arith, (add-fits c.args.axes c.args.key.now c.args.total.now c.args.begin.now c.args.indices.now c.args.readings.now c.args.sums.now c.requires.summed.0 c.args.row.now c.requires.summed.1 c.loop-k.sum c.loop-k.count c.loop-k.k-index c.loop-k.invariant.1 c.loop-k-test.true _ _ c.cell_part-cell.ensures.sum c.cell_part-cell.ensures.count).1)

pub loop-k-preserved : goal.loop-k-preserved
loop-k-preserved c = (c.cell_part-cell.ensures.kept, add-more c.args.axes c.args.key.now c.args.total.now c.args.begin.now c.args.indices.now c.args.readings.now c.args.sums.now c.requires.summed.0 c.args.row.now c.requires.summed.1 c.loop-k.sum c.loop-k.count c.loop-k.k-index c.loop-k.invariant.1 c.loop-k-test.true _ _ c.cell_part-cell.ensures.sum c.cell_part-cell.ensures.count)

pub returns : goal.returns
returns c = let r = add_done c.args.axes c.args.key.now c.args.total.now c.args.begin.now c.args.indices.now c.args.readings.now c.args.sums.now c.requires.summed.0 c.args.row.now c.loop-k.sum c.loop-k.count c.loop-k.k-index c.loop-k.invariant.1 c.loop-k-test.false in record { sum = r.0; count = r.1; kept = c.loop-k.invariant.0 }
