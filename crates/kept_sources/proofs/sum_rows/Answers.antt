-- `kept_sources::sum_rows` meets its contract.
use native.Mathlib.Omega.{arith}
use Rattle.salvaged.specs.Nodes.{input}
use Rattle.kept_sources.proofs.Adding.{adding-start, adding-more, adding-over, adding-done}
use Rattle.kept_sources.proofs.sum_rows.Goals as goal

pub loop-row-init : goal.loop-row-init
loop-row-init c = adding-start (input c.args.axes c.args.key.now c.args.own.now c.args.begin.now c.args.order.now) c.args.exact

pub row_count-n-requires : goal.row_count-n-requires
row_count-n-requires c = (c.requires, c.loop-row-test.true)

pub overflow_sub-sum : goal.overflow_sub-sum
overflow_sub-sum c = omega (arith, c.loop-row.invariant.small)

pub returns-then-sum-n : goal.returns-then-sum-n
returns-then-sum-n c = adding-over (input c.args.axes c.args.key.now c.args.own.now c.args.begin.now c.args.order.now) c.args.exact _ _ _ c.loop-row.invariant c.loop-row-test.true c.row_count-n.ensures c.if-sum-n.true

pub overflow_add-sum : goal.overflow_add-sum
overflow_add-sum c = omega (arith, c.loop-row.invariant.small, c.if-sum-n.false)

pub loop-row-preserved : goal.loop-row-preserved
loop-row-preserved c = adding-more (input c.args.axes c.args.key.now c.args.own.now c.args.begin.now c.args.order.now) c.args.exact _ _ _ c.loop-row.invariant c.loop-row-test.true c.row_count-n.ensures c.if-sum-n.false

pub returns : goal.returns
returns c = adding-done (input c.args.axes c.args.key.now c.args.own.now c.args.begin.now c.args.order.now) c.args.exact _ _ c.loop-row.invariant c.loop-row-test.false
