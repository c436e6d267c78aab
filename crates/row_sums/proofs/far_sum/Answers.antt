-- `row_sums::far_sum` meets its contract.
use Rattle.row_sums.proofs.Climbing.{climb-start, start-in, part_up, part_in, key-valid, row-asks, cells_few, climb-fits, climb-done, climb-more, climb-lost}
use native.Mathlib.Omega.{arith}
use Rattle.row_sums.proofs.far_sum.Goals as goal

pub loop-axes-init : goal.loop-axes-init
loop-axes-init c = climb-start c.args.axes c.args.key.now c.args.total.now c.args.begin.now c.args.indices.now c.args.readings.now c.args.starts.now c.args.flat.now c.args.node c.requires

pub offset_bounds-starts-at : goal.offset_bounds-starts-at
offset_bounds-starts-at c = omega (arith, start-in c.args.axes c.args.key.now c.args.total.now c.args.begin.now c.args.indices.now c.args.readings.now c.args.starts.now c.args.flat.now c.args.node c.requires _ _ _ c.loop-axes.invariant, c.well_formed.1.1.1.1.1.1.0)

pub bounds-starts-at : goal.bounds-starts-at
bounds-starts-at c = omega (arith, start-in c.args.axes c.args.key.now c.args.total.now c.args.begin.now c.args.indices.now c.args.readings.now c.args.starts.now c.args.flat.now c.args.node c.requires _ _ _ c.loop-axes.invariant)

pub overflow_add-to : goal.overflow_add-to
overflow_add-to c = omega (arith, start-in c.args.axes c.args.key.now c.args.total.now c.args.begin.now c.args.indices.now c.args.readings.now c.args.starts.now c.args.flat.now c.args.node c.requires _ _ _ c.loop-axes.invariant, c.well_formed.1.1.1.1.1.1.0)

pub offset_bounds-starts-at-in-loop-axes : goal.offset_bounds-starts-at-in-loop-axes
offset_bounds-starts-at-in-loop-axes c = omega (arith, start-in c.args.axes c.args.key.now c.args.total.now c.args.begin.now c.args.indices.now c.args.readings.now c.args.starts.now c.args.flat.now c.args.node c.requires _ _ _ c.loop-axes.invariant, c.well_formed.1.1.1.1.1.1.0)

pub bounds-starts-at-in-loop-axes : goal.bounds-starts-at-in-loop-axes
bounds-starts-at-in-loop-axes c = start-in c.args.axes c.args.key.now c.args.total.now c.args.begin.now c.args.indices.now c.args.readings.now c.args.starts.now c.args.flat.now c.args.node c.requires _ _ _ c.loop-axes.invariant

pub offset_bounds-flat-from : goal.offset_bounds-flat-from
offset_bounds-flat-from c = omega (arith, part_up c.args.axes c.args.key.now c.args.total.now c.args.begin.now c.args.indices.now c.args.readings.now c.args.starts.now c.args.flat.now c.args.node c.requires _ _ _ c.loop-axes.invariant, part_in c.args.axes c.args.key.now c.args.total.now c.args.begin.now c.args.indices.now c.args.readings.now c.args.starts.now c.args.flat.now c.args.node c.requires _ _ _ c.loop-axes.invariant, c.well_formed.1.1.1.1.1.1.1.0)

pub slice_bounds-row_sum-count : goal.slice_bounds-row_sum-count
slice_bounds-row_sum-count c = part_up c.args.axes c.args.key.now c.args.total.now c.args.begin.now c.args.indices.now c.args.readings.now c.args.starts.now c.args.flat.now c.args.node c.requires _ _ _ c.loop-axes.invariant

pub row_sum-sum-requires : goal.row_sum-sum-requires
row_sum-sum-requires c = row-asks c.args.axes c.args.key.now c.args.total.now c.args.begin.now c.args.indices.now c.args.readings.now c.args.starts.now c.args.flat.now c.args.node c.requires _ _ _ c.loop-axes.invariant

pub overflow_add-sum : goal.overflow_add-sum
overflow_add-sum c = climb-fits c.args.axes c.args.key.now c.args.total.now c.args.begin.now c.args.indices.now c.args.readings.now c.args.starts.now c.args.flat.now c.args.node c.requires _ _ _ c.loop-axes.invariant _ c.row_sum-sum.ensures.sum c.row_sum-sum.ensures.bounded

pub overflow_sub-cells : goal.overflow_sub-cells
overflow_sub-cells c = part_up c.args.axes c.args.key.now c.args.total.now c.args.begin.now c.args.indices.now c.args.readings.now c.args.starts.now c.args.flat.now c.args.node c.requires _ _ _ c.loop-axes.invariant

pub overflow_add-cells : goal.overflow_add-cells
overflow_add-cells c = omega (arith, cells_few c.args.axes c.args.key.now c.args.total.now c.args.begin.now c.args.indices.now c.args.readings.now c.args.starts.now c.args.flat.now c.args.node c.requires _ _ _ c.loop-axes.invariant)

pub offset_bounds-key-at : goal.offset_bounds-key-at
offset_bounds-key-at c = omega (arith, c.loop-axes.invariant.within, c.well_formed.1.0)

pub bounds-key-at : goal.bounds-key-at
bounds-key-at c = c.loop-axes.invariant.within

pub returns-then-k-eq0 : goal.returns-then-k-eq0
returns-then-k-eq0 c = let r = climb-done c.args.axes c.args.key.now c.args.total.now c.args.begin.now c.args.indices.now c.args.readings.now c.args.starts.now c.args.flat.now c.args.node c.requires _ _ _ c.loop-axes.invariant _ c.row_sum-sum.ensures.sum c.row_sum-sum.ensures.bounded c.if-k-eq0.true in record { sum = r.0; cells = r.1; bounded = r.2 }

pub parent_of-requires : goal.parent_of-requires
parent_of-requires c = (key-valid c.args.axes c.args.key.now c.args.total.now c.args.begin.now c.args.indices.now c.args.readings.now c.args.starts.now c.args.flat.now c.args.node c.requires _ _ _ c.loop-axes.invariant, omega (arith, c.if-k-eq0.false))

pub find_node-found-requires : goal.find_node-found-requires
find_node-found-requires c = c.requires.columns.axes

pub returns-in_default : goal.returns-in_default
returns-in_default c = absurd (climb-lost c.args.axes c.args.key.now c.args.total.now c.args.begin.now c.args.indices.now c.args.readings.now c.args.starts.now c.args.flat.now c.args.node c.requires _ _ _ c.loop-axes.invariant _ c.row_sum-sum.ensures.sum c.row_sum-sum.ensures.bounded (omega (arith, c.if-k-eq0.false)) c.parent_of.result c.parent_of.ensures c.find_node-found.result c.find_node-found.ensures c.in_default.is)

pub loop-axes-smaller : goal.loop-axes-smaller
loop-axes-smaller c = (climb-more c.args.axes c.args.key.now c.args.total.now c.args.begin.now c.args.indices.now c.args.readings.now c.args.starts.now c.args.flat.now c.args.node c.requires _ _ _ c.loop-axes.invariant _ c.row_sum-sum.ensures.sum c.row_sum-sum.ensures.bounded (omega (arith, c.if-k-eq0.false)) c.parent_of.result c.parent_of.ensures c.find_node-found.result c.find_node-found.ensures _ c.in-Some.is).1

pub loop-axes-preserved : goal.loop-axes-preserved
loop-axes-preserved c = (climb-more c.args.axes c.args.key.now c.args.total.now c.args.begin.now c.args.indices.now c.args.readings.now c.args.starts.now c.args.flat.now c.args.node c.requires _ _ _ c.loop-axes.invariant _ c.row_sum-sum.ensures.sum c.row_sum-sum.ensures.bounded (omega (arith, c.if-k-eq0.false)) c.parent_of.result c.parent_of.ensures c.find_node-found.result c.find_node-found.ensures _ c.in-Some.is).0

pub slice_bounds-row_sum-end : goal.slice_bounds-row_sum-end
slice_bounds-row_sum-end c = part_in c.args.axes c.args.key.now c.args.total.now c.args.begin.now c.args.indices.now c.args.readings.now c.args.starts.now c.args.flat.now c.args.node c.requires _ _ _ c.loop-axes.invariant
