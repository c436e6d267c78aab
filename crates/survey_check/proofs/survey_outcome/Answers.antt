-- `survey_check::survey_outcome` meets its contract.
use Rattle.survey_check.proofs.Outcomes.{not-read, tree-done, root_in, not-built, enough, short}
use borrow.Author.Tests.{not-true, not-false}
use mathlib.Core.Path.{sym, ◌∙◌}
use Rattle.survey_check.proofs.survey_outcome.Goals as goal

pub is_built-requires : goal.is_built-requires
is_built-requires c = tree-done c.args.axes c.args.key.now c.args.own.now c.args.begin.now c.args.total.now c.args.readings.now c.args.indices.now c.args.u_starts.now c.args.u_keys.now c.args.v_starts.now c.args.v_keys.now c.args.room (sym c.readings_outcome.ensures ∙ c.in_ok-readings_outcome.was)

pub returns-then-not-is_built : goal.returns-then-not-is_built
returns-then-not-is_built c = not-built c.args.axes c.args.key.now c.args.own.now c.args.begin.now c.args.total.now c.args.readings.now c.args.indices.now c.args.u_starts.now c.args.u_keys.now c.args.v_starts.now c.args.v_keys.now c.args.room (sym c.readings_outcome.ensures ∙ c.in_ok-readings_outcome.was) c.is_built.result c.is_built.ensures (c.if-not-is_built.true)

pub bounds-total-0 : goal.bounds-total-0
bounds-total-0 c = root_in c.args.axes c.args.key.now c.args.own.now c.args.begin.now c.args.total.now c.args.readings.now c.args.indices.now c.args.u_starts.now c.args.u_keys.now c.args.v_starts.now c.args.v_keys.now c.args.room (sym c.readings_outcome.ensures ∙ c.in_ok-readings_outcome.was)

pub returns-then-total-room : goal.returns-then-total-room
returns-then-total-room c = enough c.args.axes c.args.key.now c.args.own.now c.args.begin.now c.args.total.now c.args.readings.now c.args.indices.now c.args.u_starts.now c.args.u_keys.now c.args.v_starts.now c.args.v_keys.now c.args.room (sym c.readings_outcome.ensures ∙ c.in_ok-readings_outcome.was) c.is_built.result c.is_built.ensures (c.if-not-is_built.false) c.if-total-room.true

pub returns : goal.returns
returns c = short c.args.axes c.args.key.now c.args.own.now c.args.begin.now c.args.total.now c.args.readings.now c.args.indices.now c.args.u_starts.now c.args.u_keys.now c.args.v_starts.now c.args.v_keys.now c.args.room (sym c.readings_outcome.ensures ∙ c.in_ok-readings_outcome.was) c.is_built.result c.is_built.ensures (c.if-not-is_built.false) c.if-total-room.false
