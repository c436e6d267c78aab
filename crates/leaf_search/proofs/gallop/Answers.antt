-- `leaf_search::gallop` meets its contract.
use Rattle.std.proofs.Common.{get_or, sym, ◌∙◌, arith, leb-true}
use borrow.Author.Tests.{not-true, not-false}
use Rattle.tree.specs.Order.{first}
use Rattle.leaf_search.proofs.Searching.{node-level, up-to-node, up-to-end}
use Rattle.leaf_search.proofs.gallop.Goals as goal

pub loop-step-init : goal.loop-step-init
loop-step-init c = (c.requires.1, c.requires.2, omega arith)

pub begins_by-requires : goal.begins_by-requires
begins_by-requires c = (c.requires.0.axes, node-level c.args.axes c.args.key.now c.requires.0 c.args.code _ (omega (arith, c.loop-step-test.true)))

pub last_between-requires : goal.last_between-requires
last_between-requires c = (c.requires.0, up-to-node c.args.axes c.args.key.now c.requires.0 c.args.code c.loop-step.low _ (omega (arith, c.loop-step.invariant.2)) (omega (arith, c.loop-step-test.true)) c.loop-step.invariant.1 (sym c.begins_by.ensures ∙ c.if-not-begins_by.true))

pub returns-then-not-begins_by : goal.returns-then-not-begins_by
returns-then-not-begins_by c = c.last_between.ensures

pub loop-step-preserved : goal.loop-step-preserved
loop-step-preserved c = (omega (arith, c.loop-step-test.true), leb-true (first c.args.axes (get_or c.args.key.now _ 0)) c.args.code (sym c.begins_by.ensures ∙ c.if-not-begins_by.false), omega (arith, c.loop-step.invariant.2))

pub last_between-requires-2 : goal.last_between-requires-2
last_between-requires-2 c = (c.requires.0, up-to-end c.args.axes c.args.key.now c.requires.0 c.args.code c.loop-step.low c.loop-step.invariant.0 c.loop-step.invariant.1)

pub returns : goal.returns
returns c = c.last_between-2.ensures
