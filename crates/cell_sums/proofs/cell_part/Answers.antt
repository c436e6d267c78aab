-- `cell_sums::cell_part` meets its contract.
use Rattle.cell_sums.proofs.Kept.{kept_in, kept-hit, kept_more, cell-none, cell_in, cell-run, cell-count, cell-sum}
use native.Mathlib.Omega.{arith}
use Rattle.cell_sums.proofs.cell_part.Goals as goal

pub offset_bounds-names-slot : goal.offset_bounds-names-slot
offset_bounds-names-slot c = omega (arith, (kept_in c.args.key.now c.args.total.now c.args.begin.now c.args.indices.now c.args.readings.now c.args.names.now c.args.held.now c.args.counts.now c.requires.kept_2 c.slot_of-slot.result c.args.k c.slot_of-slot.ensures.below).0, c.requires.kept_2.names_size)

pub bounds-names-slot : goal.bounds-names-slot
bounds-names-slot c = (kept_in c.args.key.now c.args.total.now c.args.begin.now c.args.indices.now c.args.readings.now c.args.names.now c.args.held.now c.args.counts.now c.requires.kept_2 c.slot_of-slot.result c.args.k c.slot_of-slot.ensures.below).0

pub offset_bounds-held-slot : goal.offset_bounds-held-slot
offset_bounds-held-slot c = omega (arith, (kept_in c.args.key.now c.args.total.now c.args.begin.now c.args.indices.now c.args.readings.now c.args.names.now c.args.held.now c.args.counts.now c.requires.kept_2 c.slot_of-slot.result c.args.k c.slot_of-slot.ensures.below).1, c.requires.kept_2.held_size)

pub bounds-held-slot : goal.bounds-held-slot
bounds-held-slot c = (kept_in c.args.key.now c.args.total.now c.args.begin.now c.args.indices.now c.args.readings.now c.args.names.now c.args.held.now c.args.counts.now c.requires.kept_2 c.slot_of-slot.result c.args.k c.slot_of-slot.ensures.below).1

pub offset_bounds-counts-slot : goal.offset_bounds-counts-slot
offset_bounds-counts-slot c = omega (arith, (kept_in c.args.key.now c.args.total.now c.args.begin.now c.args.indices.now c.args.readings.now c.args.names.now c.args.held.now c.args.counts.now c.requires.kept_2 c.slot_of-slot.result c.args.k c.slot_of-slot.ensures.below).2, c.requires.kept_2.counts_size)

pub bounds-counts-slot : goal.bounds-counts-slot
bounds-counts-slot c = (kept_in c.args.key.now c.args.total.now c.args.begin.now c.args.indices.now c.args.readings.now c.args.names.now c.args.held.now c.args.counts.now c.requires.kept_2 c.slot_of-slot.result c.args.k c.slot_of-slot.ensures.below).2

pub returns-then-names-slot : goal.returns-then-names-slot
returns-then-names-slot c = let r = kept-hit c.args.key.now c.args.total.now c.args.begin.now c.args.indices.now c.args.readings.now c.args.names.now c.args.held.now c.args.counts.now c.requires.kept_2 c.slot_of-slot.result c.args.k c.slot_of-slot.ensures.below c.if-names-slot.true in record { sum = r.0; count = r.1; kept = c.requires.kept_2 }

pub find_node-found-requires : goal.find_node-found-requires
find_node-found-requires c = c.requires.summed.columns.axes

pub returns-in_default : goal.returns-in_default
returns-in_default c = let r = cell-none c.args.axes c.args.key.now c.args.total.now c.args.begin.now c.args.indices.now c.args.readings.now c.args.sums.now c.requires.summed c.args.k c.find_node-found.result c.find_node-found.ensures c.in_default.is in record { sum = r.0; count = r.1; kept = c.requires.kept_2 }

pub offset_bounds-total-node : goal.offset_bounds-total-node
offset_bounds-total-node c = omega (arith, (cell_in c.args.axes c.args.key.now c.args.total.now c.args.begin.now c.args.indices.now c.args.readings.now c.args.sums.now c.requires.summed c.args.k c.find_node-found.result c.find_node-found.ensures _ c.in-Some.is).0, c.well_formed.1.1.0)

pub bounds-total-node : goal.bounds-total-node
bounds-total-node c = (cell_in c.args.axes c.args.key.now c.args.total.now c.args.begin.now c.args.indices.now c.args.readings.now c.args.sums.now c.requires.summed c.args.k c.find_node-found.result c.find_node-found.ensures _ c.in-Some.is).0

pub offset_bounds-begin-node : goal.offset_bounds-begin-node
offset_bounds-begin-node c = omega (arith, (cell_in c.args.axes c.args.key.now c.args.total.now c.args.begin.now c.args.indices.now c.args.readings.now c.args.sums.now c.requires.summed c.args.k c.find_node-found.result c.find_node-found.ensures _ c.in-Some.is).1, c.well_formed.1.1.1.0)

pub bounds-begin-node : goal.bounds-begin-node
bounds-begin-node c = (cell_in c.args.axes c.args.key.now c.args.total.now c.args.begin.now c.args.indices.now c.args.readings.now c.args.sums.now c.requires.summed c.args.k c.find_node-found.result c.find_node-found.ensures _ c.in-Some.is).1

pub run_sum-sum-requires : goal.run_sum-sum-requires
run_sum-sum-requires c = (c.requires.summed.before, cell-run c.args.axes c.args.key.now c.args.total.now c.args.begin.now c.args.indices.now c.args.readings.now c.args.sums.now c.requires.summed c.args.k c.find_node-found.result c.find_node-found.ensures _ c.in-Some.is)

pub offset_bounds-names-slot-2 : goal.offset_bounds-names-slot-2
offset_bounds-names-slot-2 c = omega (arith, (kept_in c.args.key.now c.args.total.now c.args.begin.now c.args.indices.now c.args.readings.now c.args.names.now c.args.held.now c.args.counts.now c.requires.kept_2 c.slot_of-slot.result c.args.k c.slot_of-slot.ensures.below).0, c.requires.kept_2.names_size)

pub bounds-names-slot-2 : goal.bounds-names-slot-2
bounds-names-slot-2 c = (kept_in c.args.key.now c.args.total.now c.args.begin.now c.args.indices.now c.args.readings.now c.args.names.now c.args.held.now c.args.counts.now c.requires.kept_2 c.slot_of-slot.result c.args.k c.slot_of-slot.ensures.below).0

pub offset_bounds-held-slot-2 : goal.offset_bounds-held-slot-2
offset_bounds-held-slot-2 c = omega (arith, (kept_in c.args.key.now c.args.total.now c.args.begin.now c.args.indices.now c.args.readings.now c.args.names.now c.args.held.now c.args.counts.now c.requires.kept_2 c.slot_of-slot.result c.args.k c.slot_of-slot.ensures.below).1, c.requires.kept_2.held_size)

pub bounds-held-slot-2 : goal.bounds-held-slot-2
bounds-held-slot-2 c = (kept_in c.args.key.now c.args.total.now c.args.begin.now c.args.indices.now c.args.readings.now c.args.names.now c.args.held.now c.args.counts.now c.requires.kept_2 c.slot_of-slot.result c.args.k c.slot_of-slot.ensures.below).1

pub offset_bounds-counts-slot-2 : goal.offset_bounds-counts-slot-2
offset_bounds-counts-slot-2 c = omega (arith, (kept_in c.args.key.now c.args.total.now c.args.begin.now c.args.indices.now c.args.readings.now c.args.names.now c.args.held.now c.args.counts.now c.requires.kept_2 c.slot_of-slot.result c.args.k c.slot_of-slot.ensures.below).2, c.requires.kept_2.counts_size)

pub bounds-counts-slot-2 : goal.bounds-counts-slot-2
bounds-counts-slot-2 c = (kept_in c.args.key.now c.args.total.now c.args.begin.now c.args.indices.now c.args.readings.now c.args.names.now c.args.held.now c.args.counts.now c.requires.kept_2 c.slot_of-slot.result c.args.k c.slot_of-slot.ensures.below).2

pub returns : goal.returns
returns c = let e = cell-sum c.args.axes c.args.key.now c.args.total.now c.args.begin.now c.args.indices.now c.args.readings.now c.args.sums.now c.requires.summed c.args.k c.find_node-found.result c.find_node-found.ensures _ c.in-Some.is _ c.run_sum-sum.ensures in let q = cell-count c.args.axes c.args.key.now c.args.total.now c.args.begin.now c.args.indices.now c.args.readings.now c.args.sums.now c.requires.summed c.args.k c.find_node-found.result c.find_node-found.ensures _ c.in-Some.is in record { sum = e; count = q; kept = kept_more c.args.key.now c.args.total.now c.args.begin.now c.args.indices.now c.args.readings.now c.args.names.now c.args.held.now c.args.counts.now c.requires.kept_2 c.slot_of-slot.result c.args.k c.slot_of-slot.ensures.below _ _ e q }
