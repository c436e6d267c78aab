-- `lookup::tree_outcome` meets its contract.
use mathlib.Core.Bool.{true, false}
use borrow.Author.Tests.{not-true, not-false}
use Rattle.lookup.proofs.Single.{box-stops, tree-tested}
use Rattle.lookup.proofs.tree_outcome.Goals as goal

pub returns-then-not-is_well_formed : goal.returns-then-not-is_well_formed
returns-then-not-is_well_formed c = tree-tested c.args.b c.args.key.now c.args.own.now c.args.begin.now c.args.total.now c.box_outcome.result c.box_outcome.ensures c.in_ok-box_outcome.was c.is_well_formed.result c.is_well_formed.ensures false (c.if-not-is_well_formed.true)

pub returns : goal.returns
returns c = tree-tested c.args.b c.args.key.now c.args.own.now c.args.begin.now c.args.total.now c.box_outcome.result c.box_outcome.ensures c.in_ok-box_outcome.was c.is_well_formed.result c.is_well_formed.ensures true (c.if-not-is_well_formed.false)
