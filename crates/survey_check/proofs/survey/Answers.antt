-- `survey_check::survey` meets its contract.
use Rattle.survey_check.proofs.Outcomes.{fill-asks, passed, tallied, every-leaf}
use Rattle.refusal.proofs.Chain.{after-refused, passed-on}
use mathlib.Core.Path.{refl, sym, ◌∙◌}
use lib.ListN.{length}
use Rattle.survey_check.proofs.survey.Goals as goal

pub returns-in_err-survey_outcome : goal.returns-in_err-survey_outcome
returns-in_err-survey_outcome c =
    let e = passed-on _ _ c.from_residual.ensures.1 in
    record { answer = e ∙ sym (after-refused _ _ _ (sym c.survey_outcome.ensures ∙ c.in_err-survey_outcome.was)); all = rw e tt }

pub fill_sums-requires : goal.fill_sums-requires
fill_sums-requires c = fill-asks c.args.axes c.args.key.now c.args.own.now c.args.begin.now c.args.total.now c.args.readings.now c.args.indices.now c.args.u_starts.now c.args.u_keys.now c.args.v_starts.now c.args.v_keys.now (length c.args.sums.now) (sym c.survey_outcome.ensures ∙ c.in_ok-survey_outcome.was)

pub all_leaves-requires : goal.all_leaves-requires
all_leaves-requires c = record { passed = passed c.args.axes c.args.key.now c.args.own.now c.args.begin.now c.args.total.now c.args.readings.now c.args.indices.now c.args.u_starts.now c.args.u_keys.now c.args.v_starts.now c.args.v_keys.now (length c.args.sums.now) (sym c.survey_outcome.ensures ∙ c.in_ok-survey_outcome.was); before = c.fill_sums.ensures }

pub returns : goal.returns
returns c = record { answer = tallied c.args.axes c.args.key.now c.args.own.now c.args.begin.now c.args.total.now c.args.readings.now c.args.indices.now c.args.u_starts.now c.args.u_keys.now c.args.v_starts.now c.args.v_keys.now (length c.args.sums.now) (sym c.survey_outcome.ensures ∙ c.in_ok-survey_outcome.was) c.all_leaves.result c.all_leaves.ensures.leaves c.all_leaves.ensures.additions; all = every-leaf c.args.axes c.args.key.now c.args.own.now c.args.begin.now c.args.total.now c.args.readings.now c.args.indices.now c.args.u_starts.now c.args.u_keys.now c.args.v_starts.now c.args.v_keys.now (length c.args.sums.now) (sym c.survey_outcome.ensures ∙ c.in_ok-survey_outcome.was) _ c.all_leaves.ensures.leaves }
