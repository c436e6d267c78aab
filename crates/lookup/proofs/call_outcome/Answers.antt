-- `lookup::call_outcome` meets its contract.
use borrow.Author.Tests.{not-true, not-false}
use Rattle.lookup.proofs.Calls.{shape-refused, not-tree, short, called}
use mathlib.Core.Path.{◌∙◌}
use Rattle.refusal.proofs.Chain.{passed-on}
use Rattle.lookup.proofs.call_outcome.Goals as goal

pub returns-then-not-is_well_formed : goal.returns-then-not-is_well_formed
returns-then-not-is_well_formed c = not-tree c.args.b c.args.key.now c.args.own.now c.args.begin.now c.args.total.now c.args.numbers c.args.room c.shape_outcome.result c.shape_outcome.ensures c.in_ok-shape_outcome.was c.is_well_formed.result c.is_well_formed.ensures (c.if-not-is_well_formed.true)

pub returns-then-room-numbers : goal.returns-then-room-numbers
returns-then-room-numbers c = short c.args.b c.args.key.now c.args.own.now c.args.begin.now c.args.total.now c.args.numbers c.args.room c.shape_outcome.result c.shape_outcome.ensures c.in_ok-shape_outcome.was c.is_well_formed.result c.is_well_formed.ensures (c.if-not-is_well_formed.false) c.if-room-numbers.true

pub returns : goal.returns
returns c = called c.args.b c.args.key.now c.args.own.now c.args.begin.now c.args.total.now c.args.numbers c.args.room c.shape_outcome.result c.shape_outcome.ensures c.in_ok-shape_outcome.was c.is_well_formed.result c.is_well_formed.ensures (c.if-not-is_well_formed.false) c.if-room-numbers.false

pub returns-in_err-shape_outcome : goal.returns-in_err-shape_outcome
returns-in_err-shape_outcome c = passed-on _ _ c.from_residual.ensures.1 ∙ shape-refused c.args.b c.args.key.now c.args.own.now c.args.begin.now c.args.total.now c.args.numbers c.args.room c.shape_outcome.result c.shape_outcome.ensures _ c.in_err-shape_outcome.was
