-- `file_order::order_right` meets its contract.
use native.Mathlib.Omega.{arith}
use mathlib.Core.Path.{sym, ◌∙◌}
use Prim.Native.Nat.{◌+◌}
use borrow.Author.Tests.{not-true, not-false}
use Rattle.tree_file.specs.Trailer.{column_in}
use Rattle.arrangement.specs.Windows.{window}
use Rattle.arrangement.proofs.Judged.{upto-start, upto-more, not-long, not-below, not-once, all_once}
use Rattle.sums.proofs.Tells.{tell-true, tell-false}
use Rattle.file_order.proofs.order_right.Goals as goal

pub count_of-requires : goal.count_of-requires
count_of-requires c = (c.requires, omega arith, omega arith)

pub returns-then-count_of-n : goal.returns-then-count_of-n
returns-then-count_of-n c = sym (not-long (column_in c.args.file.now 5) c.args.n (λ e. c.if-count_of-n.true (c.count_of.ensures ∙ e)))

pub all_below-requires : goal.all_below-requires
all_below-requires c = c.requires

pub returns-then-not-all_below : goal.returns-then-not-all_below
returns-then-not-all_below c = sym (not-below (column_in c.args.file.now 5) c.args.n (tell-false c.all_below.result c.all_below.ensures (c.if-not-all_below.true)))

pub loop-from-init : goal.loop-from-init
loop-from-init c = upto-start (column_in c.args.file.now 5) c.args.n

pub once_from-requires : goal.once_from-requires
once_from-requires c = c.requires

pub returns-then-not-once_from : goal.returns-then-not-once_from
returns-then-not-once_from c = sym (not-once (column_in c.args.file.now 5) c.args.n c.loop-from.from (tell-false c.once_from.result c.once_from.ensures (c.if-not-once_from.true)))

pub returns-then-n-from-le-WINDOW : goal.returns-then-n-from-le-WINDOW
returns-then-n-from-le-WINDOW c = sym (all_once (column_in c.args.file.now 5) c.args.n (sym c.count_of.ensures ∙ c.if-count_of-n.false) (tell-true c.all_below.result c.all_below.ensures (c.if-not-all_below.false)) (c.loop-from.from + window) (upto-more (column_in c.args.file.now 5) c.args.n c.loop-from.from c.loop-from.invariant (tell-true c.once_from.result c.once_from.ensures (c.if-not-once_from.false))) (omega (arith, c.if-n-from-le-WINDOW.true)))

pub loop-from-preserved : goal.loop-from-preserved
loop-from-preserved c = upto-more (column_in c.args.file.now 5) c.args.n c.loop-from.from c.loop-from.invariant (tell-true c.once_from.result c.once_from.ensures (c.if-not-once_from.false))

pub returns : goal.returns
returns c = sym (all_once (column_in c.args.file.now 5) c.args.n (sym c.count_of.ensures ∙ c.if-count_of-n.false) (tell-true c.all_below.result c.all_below.ensures (c.if-not-all_below.false)) c.loop-from.from c.loop-from.invariant c.loop-from-test.false)
