-- `nearby::near_sum` meets its contract.
use mathlib.Core.Path.{refl, ◌∙◌}
use Prim.Native.Nat.{◌*◌, ◌+◌, ◌-◌}
use native.Mathlib.Omega.{arith}
use lib.ListN.{get_or}
use Rattle.morton.specs.Keys.{level_of}
use Rattle.node_rows.proofs.Frames.{nodes-length}
use Rattle.node_rows.proofs.Nodes.{node-deep, node-most}
use Rattle.node_rows.proofs.Marking.{summable, entries-near}
use Rattle.node_rows.proofs.nearby.near_sum.Goals as goal

pub overflow_sub-at : goal.overflow_sub-at
overflow_sub-at c = omega (arith, node-deep c.args.axes c.args.key.now c.args.own.now c.requires.sound_tree.0 c.args.node c.requires.sound_tree.1 c.requires.sound_tree.2)

pub slice_bounds-sum_at-end : goal.slice_bounds-sum_at-end
slice_bounds-sum_at-end c = nodes-length c.args.stack.now (level_of (get_or c.args.key.now c.args.node 0) - 1) (650 * (level_of (get_or c.args.key.now c.args.node 0) - 1)) (650 * (level_of (get_or c.args.key.now c.args.node 0) - 1) + 650) refl refl (omega (arith, node-deep c.args.axes c.args.key.now c.args.own.now c.requires.sound_tree.0 c.args.node c.requires.sound_tree.1 c.requires.sound_tree.2, node-most c.args.axes c.args.key.now c.args.own.now c.requires.sound_tree.0 c.args.node c.requires.sound_tree.1 c.requires.sound_tree.2, c.requires.sound_tree.3))

pub sum_at-requires : goal.sum_at-requires
sum_at-requires c = summable c.args.axes c.args.key.now c.args.own.now c.args.node c.args.stack.now c.args.near.now c.args.t c.requires.near_node.0 c.args.column.now _ _ refl refl c.requires.near_node.1 c.requires.column_bound

pub returns : goal.returns
returns c = c.sum_at.ensures ∙ entries-near c.args.axes c.args.key.now c.args.own.now c.args.node c.args.stack.now c.args.near.now c.args.t c.requires.near_node.0 c.args.column.now _ _ refl refl

pub slice_bounds-layer-end : goal.slice_bounds-layer-end
slice_bounds-layer-end c = omega (arith, node-deep c.args.axes c.args.key.now c.args.own.now c.requires.sound_tree.0 c.args.node c.requires.sound_tree.1 c.requires.sound_tree.2, node-most c.args.axes c.args.key.now c.args.own.now c.requires.sound_tree.0 c.args.node c.requires.sound_tree.1 c.requires.sound_tree.2, c.requires.sound_tree.3)
