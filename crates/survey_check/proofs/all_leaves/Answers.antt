-- `survey_check::all_leaves` meets its contract.
use Rattle.survey_check.proofs.Leaves.{far-asked, v_starts}
use Rattle.survey_check.proofs.Tour.{tour-start, no_node, tour-deep, far-in, cells_in, met-fits, listed-fits, far-known, leaves-fit, tour-more, tour-done}
use Rattle.cell_sums.proofs.Kept.{kept-start}
use native.Mathlib.Omega.{arith}
use mathlib.Core.Path.{refl}
use Rattle.survey_check.proofs.all_leaves.Goals as goal

pub loop-node-init : goal.loop-node-init
loop-node-init c = (kept-start c.args.key.now c.args.total.now c.args.begin.now c.args.indices.now c.args.readings.now 32767 (no_node c.args.axes c.args.key.now c.args.own.now c.args.begin.now c.args.total.now c.args.readings.now c.args.indices.now c.args.u_starts.now c.args.u_keys.now c.args.v_starts.now c.args.v_keys.now c.requires.passed), tour-start c.args.axes c.args.key.now c.args.own.now c.args.begin.now c.args.total.now c.args.readings.now c.args.indices.now c.args.u_starts.now c.args.u_keys.now c.args.v_starts.now c.args.v_keys.now c.requires.passed)

pub offset_bounds-key-node : goal.offset_bounds-key-node
offset_bounds-key-node c = omega (arith, c.loop-node-test.true, c.well_formed.1.0)

pub bounds-key-node : goal.bounds-key-node
bounds-key-node c = c.loop-node-test.true

pub node_part-row-requires : goal.node_part-row-requires
node_part-row-requires c = record { row_asked = far-asked c.args.axes c.args.key.now c.args.own.now c.args.begin.now c.args.total.now c.args.readings.now c.args.indices.now c.args.u_starts.now c.args.u_keys.now c.args.v_starts.now c.args.v_keys.now c.requires.passed c.loop-node.node c.loop-node.invariant.1.some c.loop-node-test.true c.args.sums.now c.requires.before; kept_2 = c.loop-node.invariant.0 }

pub overflow_sub-met : goal.overflow_sub-met
overflow_sub-met c = tour-deep c.args.axes c.args.key.now c.args.own.now c.args.begin.now c.args.total.now c.args.readings.now c.args.indices.now c.args.u_starts.now c.args.u_keys.now c.args.v_starts.now c.args.v_keys.now c.requires.passed c.loop-node.far c.loop-node.cells c.loop-node.leaves c.loop-node.additions c.loop-node.node c.loop-node.invariant.1 c.loop-node-test.true

pub offset_bounds-far-level : goal.offset_bounds-far-level
offset_bounds-far-level c = omega (arith, far-in c.args.axes c.args.key.now c.args.own.now c.args.begin.now c.args.total.now c.args.readings.now c.args.indices.now c.args.u_starts.now c.args.u_keys.now c.args.v_starts.now c.args.v_keys.now c.requires.passed c.loop-node.far c.loop-node.cells c.loop-node.leaves c.loop-node.additions c.loop-node.node c.loop-node.invariant.1 c.loop-node-test.true, c.loop-node.invariant.1.far-rides.size)

pub bounds-far-level : goal.bounds-far-level
bounds-far-level c = omega (arith, far-in c.args.axes c.args.key.now c.args.own.now c.args.begin.now c.args.total.now c.args.readings.now c.args.indices.now c.args.u_starts.now c.args.u_keys.now c.args.v_starts.now c.args.v_keys.now c.requires.passed c.loop-node.far c.loop-node.cells c.loop-node.leaves c.loop-node.additions c.loop-node.node c.loop-node.invariant.1 c.loop-node-test.true, c.loop-node.invariant.1.far-rides.size)

pub overflow_add-met : goal.overflow_add-met
overflow_add-met c = omega (arith, met-fits c.args.axes c.args.key.now c.args.own.now c.args.begin.now c.args.total.now c.args.readings.now c.args.indices.now c.args.u_starts.now c.args.u_keys.now c.args.v_starts.now c.args.v_keys.now c.requires.passed c.loop-node.far c.loop-node.cells c.loop-node.leaves c.loop-node.additions c.loop-node.node c.loop-node.invariant.1 c.loop-node-test.true _ _ c.node_part-row.ensures.sum refl c.args.sums.now c.requires.before)

pub overflow_sub-listed : goal.overflow_sub-listed
overflow_sub-listed c = tour-deep c.args.axes c.args.key.now c.args.own.now c.args.begin.now c.args.total.now c.args.readings.now c.args.indices.now c.args.u_starts.now c.args.u_keys.now c.args.v_starts.now c.args.v_keys.now c.requires.passed c.loop-node.far c.loop-node.cells c.loop-node.leaves c.loop-node.additions c.loop-node.node c.loop-node.invariant.1 c.loop-node-test.true

pub offset_bounds-cells-level : goal.offset_bounds-cells-level
offset_bounds-cells-level c = omega (arith, cells_in c.args.axes c.args.key.now c.args.own.now c.args.begin.now c.args.total.now c.args.readings.now c.args.indices.now c.args.u_starts.now c.args.u_keys.now c.args.v_starts.now c.args.v_keys.now c.requires.passed c.loop-node.far c.loop-node.cells c.loop-node.leaves c.loop-node.additions c.loop-node.node c.loop-node.invariant.1 c.loop-node-test.true, c.loop-node.invariant.1.cells-rides.size)

pub bounds-cells-level : goal.bounds-cells-level
bounds-cells-level c = omega (arith, cells_in c.args.axes c.args.key.now c.args.own.now c.args.begin.now c.args.total.now c.args.readings.now c.args.indices.now c.args.u_starts.now c.args.u_keys.now c.args.v_starts.now c.args.v_keys.now c.requires.passed c.loop-node.far c.loop-node.cells c.loop-node.leaves c.loop-node.additions c.loop-node.node c.loop-node.invariant.1 c.loop-node-test.true, c.loop-node.invariant.1.cells-rides.size)

pub row_length-requires : goal.row_length-requires
row_length-requires c = (v_starts c.args.axes c.args.key.now c.args.own.now c.args.begin.now c.args.total.now c.args.readings.now c.args.indices.now c.args.u_starts.now c.args.u_keys.now c.args.v_starts.now c.args.v_keys.now c.requires.passed c.loop-node.node c.loop-node.invariant.1.some c.loop-node-test.true, c.loop-node-test.true)

pub overflow_add-listed : goal.overflow_add-listed
overflow_add-listed c = omega (arith, listed-fits c.args.axes c.args.key.now c.args.own.now c.args.begin.now c.args.total.now c.args.readings.now c.args.indices.now c.args.u_starts.now c.args.u_keys.now c.args.v_starts.now c.args.v_keys.now c.requires.passed c.loop-node.far c.loop-node.cells c.loop-node.leaves c.loop-node.additions c.loop-node.node c.loop-node.invariant.1 c.loop-node-test.true _ _ c.node_part-row.ensures.sum c.row_length.ensures)

pub offset_bounds-far-level-in-loop-node : goal.offset_bounds-far-level-in-loop-node
offset_bounds-far-level-in-loop-node c = omega (arith, far-in c.args.axes c.args.key.now c.args.own.now c.args.begin.now c.args.total.now c.args.readings.now c.args.indices.now c.args.u_starts.now c.args.u_keys.now c.args.v_starts.now c.args.v_keys.now c.requires.passed c.loop-node.far c.loop-node.cells c.loop-node.leaves c.loop-node.additions c.loop-node.node c.loop-node.invariant.1 c.loop-node-test.true, c.loop-node.invariant.1.far-rides.size)

pub bounds-far-level-in-loop-node : goal.bounds-far-level-in-loop-node
bounds-far-level-in-loop-node c = omega (arith, far-in c.args.axes c.args.key.now c.args.own.now c.args.begin.now c.args.total.now c.args.readings.now c.args.indices.now c.args.u_starts.now c.args.u_keys.now c.args.v_starts.now c.args.v_keys.now c.requires.passed c.loop-node.far c.loop-node.cells c.loop-node.leaves c.loop-node.additions c.loop-node.node c.loop-node.invariant.1 c.loop-node-test.true, c.loop-node.invariant.1.far-rides.size)

pub offset_bounds-cells-level-in-loop-node : goal.offset_bounds-cells-level-in-loop-node
offset_bounds-cells-level-in-loop-node c = omega (arith, cells_in c.args.axes c.args.key.now c.args.own.now c.args.begin.now c.args.total.now c.args.readings.now c.args.indices.now c.args.u_starts.now c.args.u_keys.now c.args.v_starts.now c.args.v_keys.now c.requires.passed c.loop-node.far c.loop-node.cells c.loop-node.leaves c.loop-node.additions c.loop-node.node c.loop-node.invariant.1 c.loop-node-test.true, c.loop-node.invariant.1.cells-rides.size)

pub bounds-cells-level-in-loop-node : goal.bounds-cells-level-in-loop-node
bounds-cells-level-in-loop-node c = omega (arith, cells_in c.args.axes c.args.key.now c.args.own.now c.args.begin.now c.args.total.now c.args.readings.now c.args.indices.now c.args.u_starts.now c.args.u_keys.now c.args.v_starts.now c.args.v_keys.now c.requires.passed c.loop-node.far c.loop-node.cells c.loop-node.leaves c.loop-node.additions c.loop-node.node c.loop-node.invariant.1 c.loop-node-test.true, c.loop-node.invariant.1.cells-rides.size)

pub leaf_tally-tally-requires : goal.leaf_tally-tally-requires
leaf_tally-tally-requires c = record { passed = c.requires.passed; before = (c.requires.before, far-known c.args.axes c.args.key.now c.args.own.now c.args.begin.now c.args.total.now c.args.readings.now c.args.indices.now c.args.u_starts.now c.args.u_keys.now c.args.v_starts.now c.args.v_keys.now c.requires.passed c.loop-node.far c.loop-node.cells c.loop-node.leaves c.loop-node.additions c.loop-node.node c.loop-node.invariant.1 c.loop-node-test.true _ _ c.node_part-row.ensures.sum c.row_length.ensures); kept_2 = c.node_part-row.ensures.kept }

pub overflow_add-leaves : goal.overflow_add-leaves
overflow_add-leaves c = omega (arith, leaves-fit c.args.axes c.args.key.now c.args.own.now c.args.begin.now c.args.total.now c.args.readings.now c.args.indices.now c.args.u_starts.now c.args.u_keys.now c.args.v_starts.now c.args.v_keys.now c.requires.passed c.loop-node.far c.loop-node.cells c.loop-node.leaves c.loop-node.additions c.loop-node.node c.loop-node.invariant.1 c.loop-node-test.true _ _ c.node_part-row.ensures.sum c.row_length.ensures _ _ _ c.leaf_tally-tally.ensures.leaves c.leaf_tally-tally.ensures.additions refl, c.well_formed.1.0)

pub with_additions-additions-requires : goal.with_additions-additions-requires
with_additions-additions-requires c = (omega (arith, c.loop-node.invariant.1.additions-is), c.leaf_tally-tally.ensures.few)

pub loop-node-preserved : goal.loop-node-preserved
loop-node-preserved c = (c.leaf_tally-tally.ensures.kept, tour-more c.args.axes c.args.key.now c.args.own.now c.args.begin.now c.args.total.now c.args.readings.now c.args.indices.now c.args.u_starts.now c.args.u_keys.now c.args.v_starts.now c.args.v_keys.now c.requires.passed c.loop-node.far c.loop-node.cells c.loop-node.leaves c.loop-node.additions c.loop-node.node c.loop-node.invariant.1 c.loop-node-test.true _ _ c.node_part-row.ensures.sum c.row_length.ensures _ _ _ c.leaf_tally-tally.ensures.leaves c.leaf_tally-tally.ensures.additions c.with_additions-additions.ensures)

pub returns : goal.returns
returns c = let all = tour-done c.args.axes c.args.key.now c.args.own.now c.args.begin.now c.args.total.now c.args.readings.now c.args.indices.now c.args.u_starts.now c.args.u_keys.now c.args.v_starts.now c.args.v_keys.now c.requires.passed c.loop-node.far c.loop-node.cells c.loop-node.leaves c.loop-node.additions c.loop-node.node c.loop-node.invariant.1 c.loop-node-test.false in record { leaves = all.0; additions = all.1 }
