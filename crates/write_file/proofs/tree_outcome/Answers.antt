-- `write_file::tree_outcome` meets its contract.
use mathlib.Core.Path.{sym, ◌∙◌}
use borrow.Author.Tests.{not-true, not-false}
use Rattle.refusal.proofs.Chain.{passed-on}
use Rattle.write_file.proofs.Checks.{not_known, not-counted, not-tree, tree-done, not_right}
use Rattle.write_file.proofs.tree_outcome.Goals as goal

pub returns-then-not-axes_known : goal.returns-then-not-axes_known
returns-then-not-axes_known c = not_known c.args.axes c.args.key.now c.args.own.now c.args.begin.now c.args.total.now c.args.indices.now c.args.u_starts.now c.args.u_keys.now c.args.v_starts.now c.args.v_keys.now _ c.axes_known.ensures (c.if-not-axes_known.true)

pub returns-then-not-lengths_fit : goal.returns-then-not-lengths_fit
returns-then-not-lengths_fit c = not-counted c.args.axes c.args.key.now c.args.own.now c.args.begin.now c.args.total.now c.args.indices.now c.args.u_starts.now c.args.u_keys.now c.args.v_starts.now c.args.v_keys.now _ c.axes_known.ensures (c.if-not-axes_known.false) _ c.lengths_fit.ensures (c.if-not-lengths_fit.true)

pub rest_right-requires : goal.rest_right-requires
rest_right-requires c = sym c.check_tree.ensures ∙ c.in_ok-check_tree.was

pub returns-in_err-check_tree : goal.returns-in_err-check_tree
returns-in_err-check_tree c = passed-on _ _ c.from_residual.ensures.1 ∙ not-tree c.args.axes c.args.key.now c.args.own.now c.args.begin.now c.args.total.now c.args.indices.now c.args.u_starts.now c.args.u_keys.now c.args.v_starts.now c.args.v_keys.now _ c.axes_known.ensures c.if-not-axes_known.false _ c.lengths_fit.ensures c.if-not-lengths_fit.false _ (sym c.check_tree.ensures ∙ c.in_err-check_tree.was)

pub returns-then-rest_right : goal.returns-then-rest_right
returns-then-rest_right c = tree-done c.args.axes c.args.key.now c.args.own.now c.args.begin.now c.args.total.now c.args.indices.now c.args.u_starts.now c.args.u_keys.now c.args.v_starts.now c.args.v_keys.now _ c.axes_known.ensures (c.if-not-axes_known.false) _ c.lengths_fit.ensures (c.if-not-lengths_fit.false) (sym c.check_tree.ensures ∙ c.in_ok-check_tree.was) _ c.rest_right.ensures c.if-rest_right.true

pub returns : goal.returns
returns c = not_right c.args.axes c.args.key.now c.args.own.now c.args.begin.now c.args.total.now c.args.indices.now c.args.u_starts.now c.args.u_keys.now c.args.v_starts.now c.args.v_keys.now _ c.axes_known.ensures (c.if-not-axes_known.false) _ c.lengths_fit.ensures (c.if-not-lengths_fit.false) (sym c.check_tree.ensures ∙ c.in_ok-check_tree.was) _ c.rest_right.ensures c.if-rest_right.false
