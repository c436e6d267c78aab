-- What the nodes before this one add is summed, and after a turn what it adds.
use mathlib.Core.Path.{◌∙◌}
use native.Mathlib.Omega.{arith}
use Rattle.near_pass.specs.Sums.{work_of}
use Rattle.node_rows.proofs.Marking.{summing-none, summing-room, summing-more, summing-all}
use Rattle.near_pass.proofs.Work.{over-nodes, all-le}
use Rattle.near_work.proofs.listed.near_work.Goals as goal

pub loop-node-init : goal.loop-node-init
loop-node-init c = summing-none (work_of c.args.axes c.args.key.now c.args.own.now c.args.counts.now) c.args.key.now

pub work_of-work-requires : goal.work_of-work-requires
work_of-work-requires c = (c.requires.0, c.requires.1, c.loop-node-test.true, c.requires.2)

pub overflow_add-work : goal.overflow_add-work
overflow_add-work c = omega (arith, all-le c.args.axes c.args.key.now c.args.own.now c.requires.0 c.args.counts.now c.requires.2, summing-room (work_of c.args.axes c.args.key.now c.args.own.now c.args.counts.now) c.args.key.now _ _ c.loop-node.invariant _ c.loop-node-test.true c.work_of-work.ensures)

pub loop-node-preserved : goal.loop-node-preserved
loop-node-preserved c = summing-more (work_of c.args.axes c.args.key.now c.args.own.now c.args.counts.now) c.args.key.now _ _ c.loop-node.invariant _ c.loop-node-test.true c.work_of-work.ensures

pub returns : goal.returns
returns c = let e = summing-all (work_of c.args.axes c.args.key.now c.args.own.now c.args.counts.now) c.args.key.now _ _ c.loop-node.invariant c.loop-node-test.false in record { work = e ∙ over-nodes c.args.axes c.args.key.now c.args.own.now c.requires.0 c.args.counts.now c.requires.2; bounded = omega (arith, e, all-le c.args.axes c.args.key.now c.args.own.now c.requires.0 c.args.counts.now c.requires.2) }
