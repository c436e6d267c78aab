-- `file_judged::tree_outcome` meets its contract.
use native.Mathlib.Omega.{arith}
use mathlib.Core.Path.{refl}
use borrow.Author.Tests.{not-true, not-false}
use Rattle.file_judged.proofs.Chain.{not-tree, counted, not-order, not-lists, all_right}
use Rattle.file_judged.proofs.tree_outcome.Goals as goal

pub returns-then-not-columns_right : goal.returns-then-not-columns_right
returns-then-not-columns_right c = not-tree c.args.file.now c.args.s c.requires c.columns_right.result c.columns_right.ensures (c.if-not-columns_right.true)

pub number_of-sources-requires : goal.number_of-sources-requires
number_of-sources-requires c = (c.requires, omega arith, omega arith, refl)

pub returns-then-not-order_right : goal.returns-then-not-order_right
returns-then-not-order_right c = not-order c.args.file.now c.args.s c.requires c.columns_right.result c.columns_right.ensures (c.if-not-columns_right.false) c.number_of-sources.result c.number_of-sources.ensures c.order_right.result c.order_right.ensures (c.if-not-order_right.true)

pub lists_right-requires : goal.lists_right-requires
lists_right-requires c = (c.requires, counted c.args.file.now c.args.s c.requires c.columns_right.result c.columns_right.ensures (c.if-not-columns_right.false))

pub returns-then-not-lists_right : goal.returns-then-not-lists_right
returns-then-not-lists_right c = not-lists c.args.file.now c.args.s c.requires c.columns_right.result c.columns_right.ensures (c.if-not-columns_right.false) c.number_of-sources.result c.number_of-sources.ensures c.order_right.result c.order_right.ensures (c.if-not-order_right.false) c.lists_right.result c.lists_right.ensures (c.if-not-lists_right.true)

pub returns : goal.returns
returns c = all_right c.args.file.now c.args.s c.requires c.columns_right.result c.columns_right.ensures (c.if-not-columns_right.false) c.number_of-sources.result c.number_of-sources.ensures c.order_right.result c.order_right.ensures (c.if-not-order_right.false) c.lists_right.result c.lists_right.ensures (c.if-not-lists_right.false)
