-- `arrangement::is_arrangement` meets its contract.
use Rattle.arrangement.proofs.Judged.{upto-more, not-long, not-below, not-once, all_once}
use Rattle.sums.proofs.Tells.{tell-true, tell-false}
use Rattle.arrangement.specs.Windows.{window}
use native.Mathlib.Omega.{arith}
use Prim.Native.Nat.{◌*◌}
use mathlib.Core.Path.{sym}
use Rattle.arrangement.proofs.is_arrangement.Goals as goal

pub returns-then-order-n : goal.returns-then-order-n
returns-then-order-n c = sym (not-long c.args.order.now c.args.n c.if-order-n.true)

pub returns-then-not-all_below : goal.returns-then-not-all_below
returns-then-not-all_below c = sym (not-below c.args.order.now c.args.n (tell-false c.all_below.result c.all_below.ensures (c.if-not-all_below.true)))

pub returns-then-not-once_from : goal.returns-then-not-once_from
returns-then-not-once_from c = sym (not-once c.args.order.now c.args.n (c.loop-window.window * window) (tell-false c.once_from.result c.once_from.ensures c.if-not-once_from.true))

pub loop-window-preserved : goal.loop-window-preserved
loop-window-preserved c v h = upto-more c.args.order.now c.args.n (c.loop-window.window * window) c.loop-window.invariant (tell-true c.once_from.result c.once_from.ensures c.if-not-once_from.false) v (omega (arith, h))

pub returns : goal.returns
returns c = sym (all_once c.args.order.now c.args.n c.if-order-n.false (tell-true c.all_below.result c.all_below.ensures (c.if-not-all_below.false)) (c.loop-window.window * window) c.loop-window.invariant (omega (arith, c.div_ceil-window-end.ensures, c.loop-window-test.false)))
