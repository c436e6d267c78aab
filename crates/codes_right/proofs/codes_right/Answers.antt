-- `codes_right::codes_right` meets its contract.
use mathlib.Core.Path.{sym, ◌∙◌}
use mathlib.Core.List.{[]}
use native.Mathlib.Omega.{arith}
use lib.ListN.{length}
use Rattle.sums.proofs.Tells.{tell-true, tell-false}
use Rattle.points_right.specs.Points.{code_in}
use Rattle.points_right.proofs.Runs.{before-start, before_more, before-done}
use Rattle.points_right.proofs.Judged.{judging}
use Rattle.codes_right.proofs.codes_right.Goals as goal

pub returns-then-order-codes : goal.returns-then-order-codes
returns-then-order-codes c = λ p. c.if-order-codes.true p.many

pub bounds-total-0 : goal.bounds-total-0
bounds-total-0 c = let j = (judging c.args.axes [] c.args.key.now c.args.own.now c.args.begin.now c.args.total.now c.requires.0 c.requires.1) in omega (arith, j.totals, j.nodes)

pub returns-then-total-codes : goal.returns-then-total-codes
returns-then-total-codes c = λ p. c.if-total-codes.true ((judging c.args.axes [] c.args.key.now c.args.own.now c.args.begin.now c.args.total.now c.requires.0 c.requires.1).root ∙ p.whole)

pub loop-node-init : goal.loop-node-init
loop-node-init c = before-start (length c.args.codes.now) (code_in c.args.axes c.args.codes.now) c.args.key.now c.args.own.now c.args.begin.now c.args.order.now

pub bounds-begin-node : goal.bounds-begin-node
bounds-begin-node c = omega (arith, (judging c.args.axes [] c.args.key.now c.args.own.now c.args.begin.now c.args.total.now c.requires.0 c.requires.1).begins, c.loop-node-test.true)

pub bounds-own-node : goal.bounds-own-node
bounds-own-node c = omega (arith, (judging c.args.axes [] c.args.key.now c.args.own.now c.args.begin.now c.args.total.now c.requires.0 c.requires.1).owns, c.loop-node-test.true)

pub overflow_add-to : goal.overflow_add-to
overflow_add-to c = let j = (judging c.args.axes [] c.args.key.now c.args.own.now c.args.begin.now c.args.total.now c.requires.0 c.requires.1) in omega (arith, j.ends c.loop-node.node c.loop-node-test.true, j.few)

pub run_right-requires : goal.run_right-requires
run_right-requires c = let j = (judging c.args.axes [] c.args.key.now c.args.own.now c.args.begin.now c.args.total.now c.requires.0 c.requires.1) in (j.most, j.levels c.loop-node.node c.loop-node-test.true, omega (arith, j.ends c.loop-node.node c.loop-node-test.true, j.root, c.if-order-codes.false, c.if-total-codes.false))

pub returns-then-not-run_right : goal.returns-then-not-run_right
returns-then-not-run_right c = λ p. tell-false c.run_right.result c.run_right.ensures (c.if-not-run_right.true) (p.runs c.loop-node.node c.loop-node-test.true)

pub loop-node-preserved : goal.loop-node-preserved
loop-node-preserved c = before_more (length c.args.codes.now) (code_in c.args.axes c.args.codes.now) c.args.key.now c.args.own.now c.args.begin.now c.args.order.now c.loop-node.node c.loop-node.invariant (tell-true c.run_right.result c.run_right.ensures (c.if-not-run_right.false))

pub returns : goal.returns
returns c = before-done (length c.args.codes.now) (code_in c.args.axes c.args.codes.now) c.args.key.now c.args.own.now c.args.begin.now c.args.order.now c.loop-node.node c.loop-node.invariant c.loop-node-test.false c.if-order-codes.false (sym (judging c.args.axes [] c.args.key.now c.args.own.now c.args.begin.now c.args.total.now c.requires.0 c.requires.1).root ∙ c.if-total-codes.false)
