-- `sum_check::sum_outcome` meets its contract.
use Rattle.sum_check.proofs.Checks.{known, read, not-read, not-leaf, sum_done, not-built}
use borrow.Author.Tests.{not-true, not-false}
use mathlib.Core.Path.{sym, ◌∙◌}
use Rattle.sum_check.proofs.sum_outcome.Goals as goal

pub is_leaf_at-requires : goal.is_leaf_at-requires
is_leaf_at-requires c = known c.args.axes c.args.key.now c.args.own.now c.args.begin.now c.args.total.now (read c.args.axes c.args.key.now c.args.own.now c.args.begin.now c.args.total.now c.args.readings.now (sym c.readings_outcome.ensures ∙ c.in_ok-readings_outcome.was)).tree

pub returns-then-not-is_leaf_at : goal.returns-then-not-is_leaf_at
returns-then-not-is_leaf_at c = not-leaf c.args.axes c.args.key.now c.args.own.now c.args.begin.now c.args.total.now c.args.readings.now c.args.indices.now c.args.u_starts.now c.args.u_keys.now c.args.v_starts.now c.args.v_keys.now c.args.node (sym c.readings_outcome.ensures ∙ c.in_ok-readings_outcome.was) c.is_leaf_at.result c.is_leaf_at.ensures (c.if-not-is_leaf_at.true)

pub is_built-requires : goal.is_built-requires
is_built-requires c = (read c.args.axes c.args.key.now c.args.own.now c.args.begin.now c.args.total.now c.args.readings.now (sym c.readings_outcome.ensures ∙ c.in_ok-readings_outcome.was)).tree

pub returns-then-is_built : goal.returns-then-is_built
returns-then-is_built c = sum_done c.args.axes c.args.key.now c.args.own.now c.args.begin.now c.args.total.now c.args.readings.now c.args.indices.now c.args.u_starts.now c.args.u_keys.now c.args.v_starts.now c.args.v_keys.now c.args.node (sym c.readings_outcome.ensures ∙ c.in_ok-readings_outcome.was) c.is_leaf_at.result c.is_leaf_at.ensures (c.if-not-is_leaf_at.false) c.is_built.result c.is_built.ensures c.if-is_built.true

pub returns : goal.returns
returns c = not-built c.args.axes c.args.key.now c.args.own.now c.args.begin.now c.args.total.now c.args.readings.now c.args.indices.now c.args.u_starts.now c.args.u_keys.now c.args.v_starts.now c.args.v_keys.now c.args.node (sym c.readings_outcome.ensures ∙ c.in_ok-readings_outcome.was) c.is_leaf_at.result c.is_leaf_at.ensures (c.if-not-is_leaf_at.false) c.is_built.result c.is_built.ensures c.if-is_built.false
