-- `sum_check::leaf_sums` meets its contract.
use Rattle.sum_check.proofs.Leaf.{start-in, part_up, part_in, near-asks, count-asks, climb, adds_fit, answered}
use native.Mathlib.Omega.{arith}
use Rattle.sum_check.proofs.leaf_sums.Goals as goal

pub offset_bounds-u_starts-node : goal.offset_bounds-u_starts-node
offset_bounds-u_starts-node c = omega (arith, start-in c.args.axes c.args.key.now c.args.own.now c.args.begin.now c.args.total.now c.args.readings.now c.args.indices.now c.args.u_starts.now c.args.u_keys.now c.args.v_starts.now c.args.v_keys.now c.args.node c.requires, c.well_formed.1.1.1.1.1.1.1.0)

pub bounds-u_starts-node : goal.bounds-u_starts-node
bounds-u_starts-node c = omega (arith, start-in c.args.axes c.args.key.now c.args.own.now c.args.begin.now c.args.total.now c.args.readings.now c.args.indices.now c.args.u_starts.now c.args.u_keys.now c.args.v_starts.now c.args.v_keys.now c.args.node c.requires)

pub overflow_add-to : goal.overflow_add-to
overflow_add-to c = omega (arith, start-in c.args.axes c.args.key.now c.args.own.now c.args.begin.now c.args.total.now c.args.readings.now c.args.indices.now c.args.u_starts.now c.args.u_keys.now c.args.v_starts.now c.args.v_keys.now c.args.node c.requires, c.well_formed.1.1.1.1.1.1.1.0)

pub offset_bounds-u_starts-node-2 : goal.offset_bounds-u_starts-node-2
offset_bounds-u_starts-node-2 c = omega (arith, start-in c.args.axes c.args.key.now c.args.own.now c.args.begin.now c.args.total.now c.args.readings.now c.args.indices.now c.args.u_starts.now c.args.u_keys.now c.args.v_starts.now c.args.v_keys.now c.args.node c.requires, c.well_formed.1.1.1.1.1.1.1.0)

pub bounds-u_starts-node-2 : goal.bounds-u_starts-node-2
bounds-u_starts-node-2 c = start-in c.args.axes c.args.key.now c.args.own.now c.args.begin.now c.args.total.now c.args.readings.now c.args.indices.now c.args.u_starts.now c.args.u_keys.now c.args.v_starts.now c.args.v_keys.now c.args.node c.requires

pub offset_bounds-u_keys-from : goal.offset_bounds-u_keys-from
offset_bounds-u_keys-from c = omega (arith, part_up c.args.axes c.args.key.now c.args.own.now c.args.begin.now c.args.total.now c.args.readings.now c.args.indices.now c.args.u_starts.now c.args.u_keys.now c.args.v_starts.now c.args.v_keys.now c.args.node c.requires, part_in c.args.axes c.args.key.now c.args.own.now c.args.begin.now c.args.total.now c.args.readings.now c.args.indices.now c.args.u_starts.now c.args.u_keys.now c.args.v_starts.now c.args.v_keys.now c.args.node c.requires, c.well_formed.1.1.1.1.1.1.1.1.0)

pub slice_bounds-row_sum-count : goal.slice_bounds-row_sum-count
slice_bounds-row_sum-count c = part_up c.args.axes c.args.key.now c.args.own.now c.args.begin.now c.args.total.now c.args.readings.now c.args.indices.now c.args.u_starts.now c.args.u_keys.now c.args.v_starts.now c.args.v_keys.now c.args.node c.requires

pub row_sum-near-requires : goal.row_sum-near-requires
row_sum-near-requires c = near-asks c.args.axes c.args.key.now c.args.own.now c.args.begin.now c.args.total.now c.args.readings.now c.args.indices.now c.args.u_starts.now c.args.u_keys.now c.args.v_starts.now c.args.v_keys.now c.args.node c.requires

pub offset_bounds-u_keys-from-2 : goal.offset_bounds-u_keys-from-2
offset_bounds-u_keys-from-2 c = omega (arith, part_up c.args.axes c.args.key.now c.args.own.now c.args.begin.now c.args.total.now c.args.readings.now c.args.indices.now c.args.u_starts.now c.args.u_keys.now c.args.v_starts.now c.args.v_keys.now c.args.node c.requires, part_in c.args.axes c.args.key.now c.args.own.now c.args.begin.now c.args.total.now c.args.readings.now c.args.indices.now c.args.u_starts.now c.args.u_keys.now c.args.v_starts.now c.args.v_keys.now c.args.node c.requires, c.well_formed.1.1.1.1.1.1.1.1.0)

pub slice_bounds-row_count-count : goal.slice_bounds-row_count-count
slice_bounds-row_count-count c = part_up c.args.axes c.args.key.now c.args.own.now c.args.begin.now c.args.total.now c.args.readings.now c.args.indices.now c.args.u_starts.now c.args.u_keys.now c.args.v_starts.now c.args.v_keys.now c.args.node c.requires

pub row_count-sources-requires : goal.row_count-sources-requires
row_count-sources-requires c = count-asks c.args.axes c.args.key.now c.args.own.now c.args.begin.now c.args.total.now c.args.readings.now c.args.indices.now c.args.u_starts.now c.args.u_keys.now c.args.v_starts.now c.args.v_keys.now c.args.node c.requires

pub far_sum-far-requires : goal.far_sum-far-requires
far_sum-far-requires c = climb c.args.axes c.args.key.now c.args.own.now c.args.begin.now c.args.total.now c.args.readings.now c.args.indices.now c.args.u_starts.now c.args.u_keys.now c.args.v_starts.now c.args.v_keys.now c.args.node c.requires

pub overflow_add-result : goal.overflow_add-result
overflow_add-result c = omega (arith, adds_fit c.args.axes c.args.key.now c.args.own.now c.args.begin.now c.args.total.now c.args.readings.now c.args.indices.now c.args.u_starts.now c.args.u_keys.now c.args.v_starts.now c.args.v_keys.now c.args.node c.requires _ c.row_sum-near.ensures.sum c.row_sum-near.ensures.bounded _ c.row_count-sources.ensures c.far_sum-far.result.sum c.far_sum-far.result.cells c.far_sum-far.ensures.sum c.far_sum-far.ensures.cells c.far_sum-far.ensures.bounded)

pub returns : goal.returns
returns c = answered c.args.axes c.args.key.now c.args.own.now c.args.begin.now c.args.total.now c.args.readings.now c.args.indices.now c.args.u_starts.now c.args.u_keys.now c.args.v_starts.now c.args.v_keys.now c.args.node c.requires _ c.row_sum-near.ensures.sum c.row_sum-near.ensures.bounded _ c.row_count-sources.ensures c.far_sum-far.result.sum c.far_sum-far.result.cells c.far_sum-far.ensures.sum c.far_sum-far.ensures.cells c.far_sum-far.ensures.bounded

pub slice_bounds-row_sum-start : goal.slice_bounds-row_sum-start
slice_bounds-row_sum-start c = part_up c.args.axes c.args.key.now c.args.own.now c.args.begin.now c.args.total.now c.args.readings.now c.args.indices.now c.args.u_starts.now c.args.u_keys.now c.args.v_starts.now c.args.v_keys.now c.args.node c.requires

pub slice_bounds-row_sum-end : goal.slice_bounds-row_sum-end
slice_bounds-row_sum-end c = part_in c.args.axes c.args.key.now c.args.own.now c.args.begin.now c.args.total.now c.args.readings.now c.args.indices.now c.args.u_starts.now c.args.u_keys.now c.args.v_starts.now c.args.v_keys.now c.args.node c.requires

pub slice_bounds-row_count-start : goal.slice_bounds-row_count-start
slice_bounds-row_count-start c = part_up c.args.axes c.args.key.now c.args.own.now c.args.begin.now c.args.total.now c.args.readings.now c.args.indices.now c.args.u_starts.now c.args.u_keys.now c.args.v_starts.now c.args.v_keys.now c.args.node c.requires

pub slice_bounds-row_count-end : goal.slice_bounds-row_count-end
slice_bounds-row_count-end c = part_in c.args.axes c.args.key.now c.args.own.now c.args.begin.now c.args.total.now c.args.readings.now c.args.indices.now c.args.u_starts.now c.args.u_keys.now c.args.v_starts.now c.args.v_keys.now c.args.node c.requires
