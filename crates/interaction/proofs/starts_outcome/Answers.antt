-- `interaction::starts_outcome` meets its contract.
use mathlib.Core.Path.{sym, ◌∙◌}
use Rattle.interaction.proofs.Checks.{not-tree, short-u, short-v, both-have}
use Rattle.interaction.proofs.starts_outcome.Goals as goal

pub returns-then-u_places-key : goal.returns-then-u_places-key
returns-then-u_places-key c = short-u c.args.axes c.args.key.now c.args.own.now c.args.begin.now c.args.total.now c.args.u_places c.args.v_places (sym c.check_tree.ensures ∙ c.in_ok-check_tree.was) c.if-u_places-key.true

pub returns-then-v_places-key : goal.returns-then-v_places-key
returns-then-v_places-key c = short-v c.args.axes c.args.key.now c.args.own.now c.args.begin.now c.args.total.now c.args.u_places c.args.v_places (sym c.check_tree.ensures ∙ c.in_ok-check_tree.was) c.if-u_places-key.false c.if-v_places-key.true

pub returns : goal.returns
returns c = both-have c.args.axes c.args.key.now c.args.own.now c.args.begin.now c.args.total.now c.args.u_places c.args.v_places (sym c.check_tree.ensures ∙ c.in_ok-check_tree.was) c.if-u_places-key.false c.if-v_places-key.false
