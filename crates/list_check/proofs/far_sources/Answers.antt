-- `list_check::far_sources` meets its contract.
use Rattle.list_check.proofs.Nodes.{far-lost, far-small, far-says}
use Rattle.list_check.proofs.Starts.{start-in, part_up, part_in}
use native.Mathlib.Omega.{arith}
use Rattle.list_check.proofs.far_sources.Goals as goal

pub offset_bounds-starts-node : goal.offset_bounds-starts-node
offset_bounds-starts-node c = omega (arith, start-in c.args.key.now c.args.starts.now c.args.flat.now c.requires.counted.2 c.args.node c.requires.below.0.within, c.well_formed.1.1.1.1.1.1.0)

pub bounds-starts-node : goal.bounds-starts-node
bounds-starts-node c = omega (arith, start-in c.args.key.now c.args.starts.now c.args.flat.now c.requires.counted.2 c.args.node c.requires.below.0.within)

pub overflow_add-to : goal.overflow_add-to
overflow_add-to c = omega (arith, start-in c.args.key.now c.args.starts.now c.args.flat.now c.requires.counted.2 c.args.node c.requires.below.0.within, c.well_formed.1.1.1.1.1.1.0)

pub offset_bounds-starts-node-2 : goal.offset_bounds-starts-node-2
offset_bounds-starts-node-2 c = omega (arith, start-in c.args.key.now c.args.starts.now c.args.flat.now c.requires.counted.2 c.args.node c.requires.below.0.within, c.well_formed.1.1.1.1.1.1.0)

pub bounds-starts-node-2 : goal.bounds-starts-node-2
bounds-starts-node-2 c = start-in c.args.key.now c.args.starts.now c.args.flat.now c.requires.counted.2 c.args.node c.requires.below.0.within

pub offset_bounds-flat-from : goal.offset_bounds-flat-from
offset_bounds-flat-from c = omega (arith, part_up c.args.key.now c.args.starts.now c.args.flat.now c.requires.counted.2 c.args.node c.requires.below.0.within, part_in c.args.key.now c.args.starts.now c.args.flat.now c.requires.counted.2 c.args.node c.requires.below.0.within, c.well_formed.1.1.1.1.1.1.1.0)

pub slice_bounds-row_sources-count : goal.slice_bounds-row_sources-count
slice_bounds-row_sources-count c = part_up c.args.key.now c.args.starts.now c.args.flat.now c.requires.counted.2 c.args.node c.requires.below.0.within

pub row_sources-requires : goal.row_sources-requires
row_sources-requires c = (c.requires.counted.0, c.requires.counted.1, c.requires.below.1)

pub returns-in_err-count : goal.returns-in_err-count
returns-in_err-count c = record { says = rw c.from_residual.ensures (far-lost c.args.axes c.args.key.now c.args.own.now c.args.total.now c.args.starts.now c.args.flat.now c.args.node c.args.above c.requires.counted.2 c.requires.below.0.within c.args.row.cell c.requires.below.2 c.row_sources.result c.row_sources.ensures.brings c.in_err-count.was); table = c.row_sources.ensures.table }

pub overflow_add-above : goal.overflow_add-above
overflow_add-above c = omega (arith, far-small c.args.axes c.args.key.now c.args.own.now c.args.total.now c.args.starts.now c.args.flat.now c.args.node c.args.above c.requires.counted.2 c.requires.below.0.within c.args.row.cell c.requires.below.2 c.row_sources.result c.row_sources.ensures.brings _ c.in_ok-count.was, c.requires.below.3)

pub returns : goal.returns
returns c = record { says = far-says c.args.axes c.args.key.now c.args.own.now c.args.total.now c.args.starts.now c.args.flat.now c.args.node c.args.above c.requires.counted.2 c.requires.below.0.within c.args.row.cell c.requires.below.2 c.row_sources.result c.row_sources.ensures.brings _ c.in_ok-count.was _ c.held.ensures; table = c.row_sources.ensures.table }

pub slice_bounds-row_sources-end : goal.slice_bounds-row_sources-end
slice_bounds-row_sources-end c = part_in c.args.key.now c.args.starts.now c.args.flat.now c.requires.counted.2 c.args.node c.requires.below.0.within
