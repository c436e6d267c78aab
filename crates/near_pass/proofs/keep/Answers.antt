-- `near_pass::keep` meets its contract.
use native.Mathlib.Omega.{arith}
use mathlib.Core.Path.{ap}
use Prim.Native.Nat.{◌+◌, ◌-◌}
use Rattle.morton.specs.Keys.{level_of, parent}
use lib.ListN.{get_or}
use Rattle.node_rows.proofs.Nodes.{node-deep, inner-less}
use Rattle.around.proofs.Nodes.{well}
use Rattle.near_pass.proofs.Path.{sums-above, sums-down}
use Rattle.near_pass.proofs.Work.{near-own-few, kept-few}
use Rattle.near_pass.proofs.keep.Goals as goal

pub near_sum-here-requires : goal.near_sum-here-requires
near_sum-here-requires c = record { sound_tree = (c.requires.linked_tree.0.tree, c.requires.linked_tree.1, c.requires.linked_tree.2, c.requires.in_bounds.0); near_node = (c.requires.in_bounds.1, omega (arith, (well c.args.axes c.args.key.now c.args.own.now c.requires.linked_tree.0.tree).owns)); column_bound = near-own-few c.args.axes c.args.key.now c.args.own.now c.requires.linked_tree.0.tree c.args.node c.requires.linked_tree.1 c.requires.linked_tree.2 }

pub overflow_sub-sums : goal.overflow_sub-sums
overflow_sub-sums c = omega (arith, node-deep c.args.axes c.args.key.now c.args.own.now c.requires.linked_tree.0.tree c.args.node c.requires.linked_tree.1 c.requires.linked_tree.2)

pub bounds-sums-level : goal.bounds-sums-level
bounds-sums-level c = omega (arith, inner-less c.args.axes c.args.key.now c.args.own.now c.requires.linked_tree.0.tree c.args.node c.requires.linked_tree.1 c.requires.linked_tree.2 c.requires.linked_tree.3, (c.requires.in_bounds.2 c.requires.linked_tree.2).room)

pub overflow_add-sums : goal.overflow_add-sums
overflow_add-sums c = omega (arith, sums-above c.args.axes c.args.key.now c.args.own.now c.requires.linked_tree.0.tree c.args.node c.requires.linked_tree.1 c.requires.linked_tree.2 c.args.sums.now c.requires.in_bounds.2, kept-few c.args.axes c.args.key.now c.args.own.now c.requires.linked_tree.0.tree (parent c.args.axes (get_or c.args.key.now c.args.node 0)), c.near_sum-here.ensures, near-own-few c.args.axes c.args.key.now c.args.own.now c.requires.linked_tree.0.tree c.args.node c.requires.linked_tree.1 c.requires.linked_tree.2)

pub bounds-sums-level-2 : goal.bounds-sums-level-2
bounds-sums-level-2 c = omega (arith, inner-less c.args.axes c.args.key.now c.args.own.now c.requires.linked_tree.0.tree c.args.node c.requires.linked_tree.1 c.requires.linked_tree.2 c.requires.linked_tree.3, (c.requires.in_bounds.2 c.requires.linked_tree.2).room)

pub returns : goal.returns
returns c = sums-down c.args.axes c.args.key.now c.args.own.now c.requires.linked_tree.0.tree c.args.node c.requires.linked_tree.1 c.requires.linked_tree.2 c.args.sums.now c.requires.in_bounds.2 c.requires.linked_tree.3 _ (ap (λ n. get_or c.args.sums.now (level_of (get_or c.args.key.now c.args.node 0) - 1) 0 + n) c.near_sum-here.ensures)
