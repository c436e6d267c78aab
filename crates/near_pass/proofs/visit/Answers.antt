-- `near_pass::visit` meets its contract.
use native.Mathlib.Omega.{arith}
use mathlib.Core.Path.{sym, ◌∙◌}
use lib.ListN.{get_or}
use Rattle.node_rows.proofs.Stacks.{ready-after}
use Rattle.node_rows.proofs.Nodes.{outer-leaf}
use Rattle.near_pass.proofs.Path.{sums-after}
use Rattle.near_pass.proofs.Work.{inner-leaf, work_none, work-zero, weight-of}
use Rattle.near_pass.proofs.visit.Goals as goal

pub has_children-requires : goal.has_children-requires
has_children-requires c = c.requires.linked_tree.2

pub find_near-t-requires : goal.find_near-t-requires
find_near-t-requires c = record { sound_tree = (c.requires.linked_tree.0.tree, c.requires.linked_tree.1, c.requires.linked_tree.2, omega arith); ready = c.requires.ready_2.0 }

pub keep-requires : goal.keep-requires
keep-requires c = record { linked_tree = (c.requires.linked_tree.0, c.requires.linked_tree.1, c.requires.linked_tree.2, sym c.has_children.ensures ∙ c.if-has_children.true); in_bounds = ((c.requires.ready_2.0 c.requires.linked_tree.2).room, c.find_near-t.ensures, c.requires.ready_2.1) }

pub enter-requires : goal.enter-requires
enter-requires c = record { linked_tree = (c.requires.linked_tree.0, c.requires.linked_tree.1, c.requires.linked_tree.2, sym c.has_children.ensures ∙ c.if-has_children.true); ready = (c.requires.ready_2.0, c.find_near-t.ensures) }

pub returns-then-has_children : goal.returns-then-has_children
returns-then-has_children c = record { ready = c.enter.ensures; sums = c.keep.ensures; work = work_none c.args.axes c.args.key.now c.args.own.now c.args.counts.now (get_or c.args.key.now c.args.node 0) (inner-leaf c.args.axes c.args.key.now c.args.own.now c.requires.linked_tree.0.tree c.args.node c.requires.linked_tree.1 c.requires.linked_tree.2 (sym c.has_children.ensures ∙ c.if-has_children.true)) }

pub offset_bounds-counts-node : goal.offset_bounds-counts-node
offset_bounds-counts-node c = omega (arith, c.requires.linked_tree.2, c.requires.linked_tree.3.long)

pub bounds-counts-node : goal.bounds-counts-node
bounds-counts-node c = omega (arith, c.requires.linked_tree.2, c.requires.linked_tree.3.long)

pub returns-then-counts-node-eq0 : goal.returns-then-counts-node-eq0
returns-then-counts-node-eq0 c = let out = sym c.has_children.ensures ∙ c.if-has_children.false in record { ready = ready-after c.args.axes c.args.key.now c.args.own.now c.args.stack.now c.args.held.now c.requires.linked_tree.0.tree c.args.node c.requires.linked_tree.2 out c.requires.linked_tree.1 (c.requires.ready_2.0 c.requires.linked_tree.2); sums = sums-after c.args.axes c.args.key.now c.args.own.now c.args.sums.now c.requires.linked_tree.0.tree c.args.node c.requires.linked_tree.2 out c.requires.linked_tree.1 c.requires.ready_2.1; work = work-zero c.args.axes c.args.key.now c.args.own.now c.args.counts.now (get_or c.args.key.now c.args.node 0) (get_or c.args.counts.now c.args.node 0) (outer-leaf c.args.axes c.args.key.now c.args.own.now c.requires.linked_tree.0.tree c.args.node c.requires.linked_tree.1 c.requires.linked_tree.2 out) (weight-of c.args.axes c.args.key.now c.args.own.now c.requires.linked_tree.0.tree c.args.counts.now c.requires.linked_tree.3 c.args.node c.requires.linked_tree.2) c.if-counts-node-eq0.true }

pub find_near-t-requires-2 : goal.find_near-t-requires-2
find_near-t-requires-2 c = record { sound_tree = (c.requires.linked_tree.0.tree, c.requires.linked_tree.1, c.requires.linked_tree.2, omega arith); ready = c.requires.ready_2.0 }

pub leaf_work-requires : goal.leaf_work-requires
leaf_work-requires c = record { linked_tree = (c.requires.linked_tree.0, c.requires.linked_tree.1, c.requires.linked_tree.2, sym c.has_children.ensures ∙ c.if-has_children.false); in_bounds = ((c.requires.ready_2.0 c.requires.linked_tree.2).room, c.find_near-t-2.ensures, c.requires.ready_2.1, c.requires.linked_tree.3) }

pub returns : goal.returns
returns c = let out = sym c.has_children.ensures ∙ c.if-has_children.false in record { ready = ready-after c.args.axes c.args.key.now c.args.own.now c.args.stack.now c.args.held.now c.requires.linked_tree.0.tree c.args.node c.requires.linked_tree.2 out c.requires.linked_tree.1 (c.requires.ready_2.0 c.requires.linked_tree.2); sums = sums-after c.args.axes c.args.key.now c.args.own.now c.args.sums.now c.requires.linked_tree.0.tree c.args.node c.requires.linked_tree.2 out c.requires.linked_tree.1 c.requires.ready_2.1; work = c.leaf_work.ensures }
