-- `lookup::attempt` meets its contract.
use mathlib.Core.Path.{refl}
use lib.ListN.{length}
use Rattle.lookup.proofs.Calls.{early-answer, early-ends, call-checked, looked-answer, looked-points}
use mathlib.Core.Path.{◌∙◌}
use Rattle.refusal.proofs.Chain.{passed-on}
use Rattle.lookup.proofs.attempt.Goals as goal

pub look_up-requires : goal.look_up-requires
look_up-requires c = let k = call-checked c.args.b c.args.key.now c.args.own.now c.args.begin.now c.args.total.now c.args.points.now (length c.args.output.now) c.call_outcome.result c.call_outcome.ensures c.in_ok-call_outcome.was in (k.box.least, k.box.most, k.tree, k.fits, k.few)

pub returns : goal.returns
returns c = record { value = looked-answer c.args.b c.args.key.now c.args.own.now c.args.begin.now c.args.total.now c.args.points.now (length c.args.output.now) c.call_outcome.result c.call_outcome.ensures c.in_ok-call_outcome.was c.look_up.result c.look_up.ensures.value; output_len_unchanged = (c.look_up.ensures.output_len_unchanged.0, λ d. c.look_up.ensures.output_len_unchanged.1 (looked-points c.args.b c.args.key.now c.args.own.now c.args.begin.now c.args.total.now c.args.points.now (length c.args.output.now) c.call_outcome.result c.call_outcome.ensures c.in_ok-call_outcome.was d)) }

pub returns-in_err-call_outcome : goal.returns-in_err-call_outcome
returns-in_err-call_outcome c = record {
  value = passed-on _ _ c.from_residual.ensures.1 ∙ early-answer c.args.b c.args.key.now c.args.own.now c.args.begin.now c.args.total.now c.args.points.now (length c.args.output.now) c.call_outcome.result c.call_outcome.ensures _ c.in_err-call_outcome.was;
  output_len_unchanged = (refl, λ d. absurd (early-ends c.args.b c.args.key.now c.args.own.now c.args.begin.now c.args.total.now c.args.points.now (length c.args.output.now) c.call_outcome.result c.call_outcome.ensures _ c.in_err-call_outcome.was d));
}
