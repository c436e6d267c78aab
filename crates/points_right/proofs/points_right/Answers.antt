-- `points_right::points_right` meets its contract.
use mathlib.Core.Path.{sym, ap, ◌∙◌}
use native.Mathlib.Omega.{arith}
use lib.ListN.{length}
use Prim.Native.Nat.{◌/◌}
use Rattle.space.specs.declared.Frame.{Frame}
use Rattle.space.specs.Cells.{frame_of}
use Rattle.sums.proofs.Tells.{tell-true, tell-false}
use Rattle.points_right.specs.Points.{point_in}
use Rattle.points_right.proofs.Runs.{before-start, before_more}
use Rattle.points_right.proofs.Judged.{judging, run-asks, one-wrong, all_right}
use Rattle.points_right.proofs.points_right.Goals as goal

pub returns-then-order-n : goal.returns-then-order-n
returns-then-order-n c = λ p. c.if-order-n.true p.many

pub bounds-total-0 : goal.bounds-total-0
bounds-total-0 c = omega (arith, (judging c.args.b.axes c.args.points.now c.args.key.now c.args.own.now c.args.begin.now c.args.total.now c.requires.0 c.requires.1).totals, (judging c.args.b.axes c.args.points.now c.args.key.now c.args.own.now c.args.begin.now c.args.total.now c.requires.0 c.requires.1).nodes)

pub returns-then-total-n : goal.returns-then-total-n
returns-then-total-n c = λ p. c.if-total-n.true ((judging c.args.b.axes c.args.points.now c.args.key.now c.args.own.now c.args.begin.now c.args.total.now c.requires.0 c.requires.1).root ∙ p.whole)

pub loop-node-init : goal.loop-node-init
loop-node-init c = before-start (length c.args.points.now / c.args.b.axes) (point_in c.frame_of-f.result c.args.points.now) c.args.key.now c.args.own.now c.args.begin.now c.args.order.now

pub bounds-begin-node : goal.bounds-begin-node
bounds-begin-node c = omega (arith, (judging c.args.b.axes c.args.points.now c.args.key.now c.args.own.now c.args.begin.now c.args.total.now c.requires.0 c.requires.1).begins, c.loop-node-test.true)

pub bounds-own-node : goal.bounds-own-node
bounds-own-node c = omega (arith, (judging c.args.b.axes c.args.points.now c.args.key.now c.args.own.now c.args.begin.now c.args.total.now c.requires.0 c.requires.1).owns, c.loop-node-test.true)

pub overflow_add-to : goal.overflow_add-to
overflow_add-to c = omega (arith, (judging c.args.b.axes c.args.points.now c.args.key.now c.args.own.now c.args.begin.now c.args.total.now c.requires.0 c.requires.1).ends c.loop-node.node c.loop-node-test.true, (judging c.args.b.axes c.args.points.now c.args.key.now c.args.own.now c.args.begin.now c.args.total.now c.requires.0 c.requires.1).few)

pub run_right-requires : goal.run_right-requires
run_right-requires c = run-asks c.args.b.axes c.args.points.now c.args.key.now c.args.own.now c.args.begin.now c.args.total.now (judging c.args.b.axes c.args.points.now c.args.key.now c.args.own.now c.args.begin.now c.args.total.now c.requires.0 c.requires.1) c.loop-node.node (length c.args.order.now) c.frame_of-f.result.axes c.loop-node-test.true c.if-order-n.false (sym (judging c.args.b.axes c.args.points.now c.args.key.now c.args.own.now c.args.begin.now c.args.total.now c.requires.0 c.requires.1).root ∙ c.if-total-n.false ∙ sym c.if-order-n.false) (ap (λ (f : Frame). f.axes) c.frame_of-f.ensures)

pub returns-then-not-run_right : goal.returns-then-not-run_right
returns-then-not-run_right c = one-wrong (length c.args.points.now / c.args.b.axes) c.frame_of-f.result (frame_of c.args.b) c.frame_of-f.ensures c.args.points.now c.args.key.now c.args.own.now c.args.begin.now c.args.order.now c.loop-node.node c.loop-node-test.true (tell-false c.run_right.result c.run_right.ensures (c.if-not-run_right.true))

pub loop-node-preserved : goal.loop-node-preserved
loop-node-preserved c = before_more (length c.args.points.now / c.args.b.axes) (point_in c.frame_of-f.result c.args.points.now) c.args.key.now c.args.own.now c.args.begin.now c.args.order.now c.loop-node.node c.loop-node.invariant (tell-true c.run_right.result c.run_right.ensures (c.if-not-run_right.false))

pub returns : goal.returns
returns c = all_right (length c.args.points.now / c.args.b.axes) c.frame_of-f.result (frame_of c.args.b) c.frame_of-f.ensures c.args.points.now c.args.key.now c.args.own.now c.args.begin.now c.args.order.now c.loop-node.node c.loop-node.invariant c.loop-node-test.false c.if-order-n.false (sym (judging c.args.b.axes c.args.points.now c.args.key.now c.args.own.now c.args.begin.now c.args.total.now c.requires.0 c.requires.1).root ∙ c.if-total-n.false)
