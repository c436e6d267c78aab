-- `near_pass::leaf_work` meets its contract.
use native.Mathlib.Omega.{arith}
use mathlib.Core.Path.{sym, ap₂, ◌∙◌}
use Prim.Native.Nat.{◌+◌, ◌-◌}
use Rattle.morton.specs.Keys.{level_of}
use lib.ListN.{get_or}
use Rattle.node_rows.proofs.Nodes.{node-deep, node-most, outer-leaf}
use Rattle.tree.proofs.Rules.{total-facts}
use Rattle.near_pass.proofs.Path.{sums-above}
use Rattle.near_pass.proofs.Work.{sources-few, leaf-near, weight-of, weight-few, work-some, product-fits}
use Rattle.near_pass.proofs.leaf_work.Goals as goal

pub overflow_sub-up : goal.overflow_sub-up
overflow_sub-up c = omega (arith, node-deep c.args.axes c.args.key.now c.args.own.now c.requires.linked_tree.0.tree c.args.node c.requires.linked_tree.1 c.requires.linked_tree.2)

pub near_sum-deeper-requires : goal.near_sum-deeper-requires
near_sum-deeper-requires c = record { sound_tree = (c.requires.linked_tree.0.tree, c.requires.linked_tree.1, c.requires.linked_tree.2, c.requires.in_bounds.0); near_node = (c.requires.in_bounds.1, omega (arith, (total-facts c.args.axes c.args.key.now c.args.own.now c.args.total.now c.requires.linked_tree.0.totals).0)); column_bound = omega (arith, leaf-near c.args.axes c.args.key.now c.args.own.now c.requires.linked_tree.0.tree c.args.node c.requires.linked_tree.1 c.requires.linked_tree.2 c.requires.linked_tree.3 c.args.total.now c.requires.linked_tree.0.totals, sources-few c.args.axes c.args.key.now c.args.own.now c.requires.linked_tree.0.tree (get_or c.args.key.now c.args.node 0)) }

pub bounds-sums-up : goal.bounds-sums-up
bounds-sums-up c = omega (arith, node-deep c.args.axes c.args.key.now c.args.own.now c.requires.linked_tree.0.tree c.args.node c.requires.linked_tree.1 c.requires.linked_tree.2, node-most c.args.axes c.args.key.now c.args.own.now c.requires.linked_tree.0.tree c.args.node c.requires.linked_tree.1 c.requires.linked_tree.2, (c.requires.in_bounds.2 c.requires.linked_tree.2).room)

pub overflow_add-sources : goal.overflow_add-sources
overflow_add-sources c = omega (arith, sums-above c.args.axes c.args.key.now c.args.own.now c.requires.linked_tree.0.tree c.args.node c.requires.linked_tree.1 c.requires.linked_tree.2 c.args.sums.now c.requires.in_bounds.2, c.near_sum-deeper.ensures, leaf-near c.args.axes c.args.key.now c.args.own.now c.requires.linked_tree.0.tree c.args.node c.requires.linked_tree.1 c.requires.linked_tree.2 c.requires.linked_tree.3 c.args.total.now c.requires.linked_tree.0.totals, sources-few c.args.axes c.args.key.now c.args.own.now c.requires.linked_tree.0.tree (get_or c.args.key.now c.args.node 0))

pub offset_bounds-counts-node : goal.offset_bounds-counts-node
offset_bounds-counts-node c = omega (arith, c.requires.in_bounds.3.long, c.requires.linked_tree.2)

pub bounds-counts-node : goal.bounds-counts-node
bounds-counts-node c = omega (arith, c.requires.in_bounds.3.long, c.requires.linked_tree.2)

pub overflow_mul-result : goal.overflow_mul-result
overflow_mul-result c = omega (arith, product-fits (get_or c.args.counts.now c.args.node 0) (get_or c.args.sums.now (level_of (get_or c.args.key.now c.args.node 0) - 1) 0 + c.near_sum-deeper.result) (weight-few c.args.axes c.args.key.now c.args.own.now c.requires.linked_tree.0.tree c.args.counts.now c.requires.in_bounds.3 c.args.node c.requires.linked_tree.2 (outer-leaf c.args.axes c.args.key.now c.args.own.now c.requires.linked_tree.0.tree c.args.node c.requires.linked_tree.1 c.requires.linked_tree.2 c.requires.linked_tree.3)) (omega (arith, sums-above c.args.axes c.args.key.now c.args.own.now c.requires.linked_tree.0.tree c.args.node c.requires.linked_tree.1 c.requires.linked_tree.2 c.args.sums.now c.requires.in_bounds.2, c.near_sum-deeper.ensures, leaf-near c.args.axes c.args.key.now c.args.own.now c.requires.linked_tree.0.tree c.args.node c.requires.linked_tree.1 c.requires.linked_tree.2 c.requires.linked_tree.3 c.args.total.now c.requires.linked_tree.0.totals, sources-few c.args.axes c.args.key.now c.args.own.now c.requires.linked_tree.0.tree (get_or c.args.key.now c.args.node 0))))

pub returns : goal.returns
returns c = work-some c.args.axes c.args.key.now c.args.own.now c.args.counts.now (get_or c.args.key.now c.args.node 0) _ _ (outer-leaf c.args.axes c.args.key.now c.args.own.now c.requires.linked_tree.0.tree c.args.node c.requires.linked_tree.1 c.requires.linked_tree.2 c.requires.linked_tree.3) (weight-of c.args.axes c.args.key.now c.args.own.now c.requires.linked_tree.0.tree c.args.counts.now c.requires.in_bounds.3 c.args.node c.requires.linked_tree.2) (ap₂ ◌+◌ (sums-above c.args.axes c.args.key.now c.args.own.now c.requires.linked_tree.0.tree c.args.node c.requires.linked_tree.1 c.requires.linked_tree.2 c.args.sums.now c.requires.in_bounds.2) c.near_sum-deeper.ensures ∙ sym (leaf-near c.args.axes c.args.key.now c.args.own.now c.requires.linked_tree.0.tree c.args.node c.requires.linked_tree.1 c.requires.linked_tree.2 c.requires.linked_tree.3 c.args.total.now c.requires.linked_tree.0.totals))
