-- `near_work::room_outcome` meets its contract.
use mathlib.Core.Path.{sym, ◌∙◌}
use Rattle.refusal.proofs.Chain.{passed-on}
use Rattle.near_work.proofs.Checks.{not-shaped, not-tree, short, enough}
use Rattle.near_work.proofs.room_outcome.Goals as goal

pub returns-in_err-shape_outcome : goal.returns-in_err-shape_outcome
returns-in_err-shape_outcome c = passed-on _ _ c.from_residual.ensures.1 ∙ not-shaped c.args.b c.args.key.now c.args.own.now c.args.begin.now c.args.total.now c.args.numbers c.args.room _ (sym c.shape_outcome.ensures ∙ c.in_err-shape_outcome.was)

pub returns-in_err-check_tree : goal.returns-in_err-check_tree
returns-in_err-check_tree c = passed-on _ _ c.from_residual-in_err-check_tree.ensures.1 ∙ not-tree c.args.b c.args.key.now c.args.own.now c.args.begin.now c.args.total.now c.args.numbers c.args.room (sym c.shape_outcome.ensures ∙ c.in_ok-shape_outcome.was) _ (sym c.check_tree.ensures ∙ c.in_err-check_tree.was)

pub returns-then-room-key : goal.returns-then-room-key
returns-then-room-key c = short c.args.b c.args.key.now c.args.own.now c.args.begin.now c.args.total.now c.args.numbers c.args.room (sym c.shape_outcome.ensures ∙ c.in_ok-shape_outcome.was) (sym c.check_tree.ensures ∙ c.in_ok-check_tree.was) c.if-room-key.true

pub returns : goal.returns
returns c = enough c.args.b c.args.key.now c.args.own.now c.args.begin.now c.args.total.now c.args.numbers c.args.room (sym c.shape_outcome.ensures ∙ c.in_ok-shape_outcome.was) (sym c.check_tree.ensures ∙ c.in_ok-check_tree.was) c.if-room-key.false
