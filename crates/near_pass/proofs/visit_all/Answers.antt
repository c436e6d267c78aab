-- What the nodes before this one add is summed, and after a turn what it adds.
use native.Mathlib.Omega.{arith}
use mathlib.Core.Path.{◌∙◌}
use lib.ListN.{get_or}
use Rattle.around.proofs.Nodes.{well}
use Rattle.node_rows.proofs.Marking.{summing-none, summing-more, summing-room, summing-all}
use Rattle.near_pass.specs.Sums.{work_of}
use Rattle.near_pass.proofs.Work.{root-leaf, work_none, over-nodes, all-le}
use Rattle.near_pass.proofs.visit_all.Goals as goal

pub loop-node-init : goal.loop-node-init
loop-node-init c = (summing-more _ _ 0 0 (summing-none (work_of c.args.axes c.args.key.now c.args.own.now c.args.counts.now) c.args.key.now) 0 (well c.args.axes c.args.key.now c.args.own.now c.requires.linked_tree.0.tree).some (work_none c.args.axes c.args.key.now c.args.own.now c.args.counts.now (get_or c.args.key.now 0 0) (root-leaf c.args.axes c.args.key.now c.args.own.now c.requires.linked_tree.0.tree)), c.requires.ready.0, c.requires.ready.1)

pub visit-work-requires : goal.visit-work-requires
visit-work-requires c = record { linked_tree = (c.requires.linked_tree.0, c.loop-node.auto.node, c.loop-node-test.true, c.requires.linked_tree.1); ready_2 = (c.loop-node.invariant.1, c.loop-node.invariant.2) }

pub overflow_add-work : goal.overflow_add-work
overflow_add-work c = omega (arith, summing-room _ _ _ _ c.loop-node.invariant.0 _ c.loop-node-test.true c.visit-work.ensures.work, all-le c.args.axes c.args.key.now c.args.own.now c.requires.linked_tree.0.tree c.args.counts.now c.requires.linked_tree.1)

pub loop-node-preserved : goal.loop-node-preserved
loop-node-preserved c = (summing-more _ _ _ _ c.loop-node.invariant.0 _ c.loop-node-test.true c.visit-work.ensures.work, c.visit-work.ensures.ready, c.visit-work.ensures.sums)

pub returns : goal.returns
returns c = let e = summing-all _ _ _ _ c.loop-node.invariant.0 (omega (arith, c.loop-node-test.false)) in let o = over-nodes c.args.axes c.args.key.now c.args.own.now c.requires.linked_tree.0.tree c.args.counts.now c.requires.linked_tree.1 in (e ∙ o, omega (arith, e, all-le c.args.axes c.args.key.now c.args.own.now c.requires.linked_tree.0.tree c.args.counts.now c.requires.linked_tree.1))
