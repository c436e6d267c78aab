-- `report::list_tree` meets its contract, by the laws of `proofs/Reports.antt`.
use mathlib.Core.Path.{sym, ap, ◌∙◌}
use lib.ListN.{length}
use Rattle.text.specs.Listing.{text_answer, text_left}
use Rattle.report.proofs.Reports.{holds_rows, text-refused, counts-refused, lists-refused, work-refused, counts_are, filled-as, text-listed}
use Rattle.report.proofs.list_tree.Goals as goal

pub returns-in-Err : goal.returns-in-Err
returns-in-Err c = let h = lists-refused c.args.b c.args.key.now c.args.own.now c.args.begin.now c.args.total.now c.args.targets.now (length c.args.u_starts.now) (length c.args.u_keys.now) (length c.args.v_starts.now) (length c.args.v_keys.now) (length c.args.counts.now) _ (sym c.in-Err.is ∙ c.get_interaction_lists-listed.ensures.answer) in let e = text-refused c.args.b c.args.key.now c.args.own.now c.args.begin.now c.args.total.now c.args.targets.now (length c.args.u_starts.now) (length c.args.u_keys.now) (length c.args.v_starts.now) (length c.args.v_keys.now) (length c.args.counts.now) c.args.sources _ h in record { answer = c.write_refusal.ensures.answer ∙ ap (text_answer (length c.args.out.now)) e; text = c.write_refusal.ensures.text ∙ ap (text_left (length c.args.out.now)) e; u_starts = c.get_interaction_lists-listed.ensures.u_starts; u_keys = c.get_interaction_lists-listed.ensures.u_keys; v_starts = c.get_interaction_lists-listed.ensures.v_starts; v_keys = c.get_interaction_lists-listed.ensures.v_keys; counts = counts-refused c.args.b c.args.key.now c.args.own.now c.args.begin.now c.args.total.now c.args.targets.now (length c.args.u_starts.now) (length c.args.u_keys.now) (length c.args.v_starts.now) (length c.args.v_keys.now) (length c.args.counts.now) c.args.sources _ h _ c.clear_usize.ensures }

pub returns-in-Err-answer : goal.returns-in-Err-answer
returns-in-Err-answer c = let q = sym c.in_default.is ∙ c.get_interaction_lists-listed.ensures.answer in let h = work-refused c.args.b c.args.key.now c.args.own.now c.args.begin.now c.args.total.now c.args.targets.now (length c.args.u_starts.now) (length c.args.u_keys.now) (length c.args.v_starts.now) (length c.args.v_keys.now) (length c.args.counts.now) _ q _ (sym c.in-Err-answer.is ∙ c.get_near_work-answer.ensures.answer) in let e = text-refused c.args.b c.args.key.now c.args.own.now c.args.begin.now c.args.total.now c.args.targets.now (length c.args.u_starts.now) (length c.args.u_keys.now) (length c.args.v_starts.now) (length c.args.v_keys.now) (length c.args.counts.now) c.args.sources _ h in record { answer = c.write_refusal-in-Err-answer.ensures.answer ∙ ap (text_answer (length c.args.out.now)) e; text = c.write_refusal-in-Err-answer.ensures.text ∙ ap (text_left (length c.args.out.now)) e; u_starts = c.get_interaction_lists-listed.ensures.u_starts; u_keys = c.get_interaction_lists-listed.ensures.u_keys; v_starts = c.get_interaction_lists-listed.ensures.v_starts; v_keys = c.get_interaction_lists-listed.ensures.v_keys; counts = counts_are c.args.b c.args.key.now c.args.own.now c.args.begin.now c.args.total.now c.args.targets.now (length c.args.u_starts.now) (length c.args.u_keys.now) (length c.args.v_starts.now) (length c.args.v_keys.now) (length c.args.counts.now) _ q _ c.get_near_work-answer.ensures.counts }

pub returns-in-Ok : goal.returns-in-Ok
returns-in-Ok c = let q = sym c.in_default.is ∙ c.get_interaction_lists-listed.ensures.answer in let e = text-listed c.args.b c.args.key.now c.args.own.now c.args.begin.now c.args.total.now c.args.targets.now (length c.args.u_starts.now) (length c.args.u_keys.now) (length c.args.v_starts.now) (length c.args.v_keys.now) (length c.args.counts.now) _ q c.args.sources _ _ _ _ _ _ (sym c.in-Ok.is ∙ c.get_near_work-answer.ensures.answer) c.depth_of-depth.ensures (holds_rows _ _ _ _ _ _ (filled-as c.args.b c.args.key.now c.args.own.now c.args.begin.now c.args.total.now c.args.targets.now (length c.args.u_starts.now) (length c.args.u_keys.now) (length c.args.v_starts.now) (length c.args.v_keys.now) (length c.args.counts.now) _ q _ _ _ c.get_interaction_lists-listed.ensures.u_starts) (filled-as c.args.b c.args.key.now c.args.own.now c.args.begin.now c.args.total.now c.args.targets.now (length c.args.u_starts.now) (length c.args.u_keys.now) (length c.args.v_starts.now) (length c.args.v_keys.now) (length c.args.counts.now) _ q _ _ _ c.get_interaction_lists-listed.ensures.u_keys)) (holds_rows _ _ _ _ _ _ (filled-as c.args.b c.args.key.now c.args.own.now c.args.begin.now c.args.total.now c.args.targets.now (length c.args.u_starts.now) (length c.args.u_keys.now) (length c.args.v_starts.now) (length c.args.v_keys.now) (length c.args.counts.now) _ q _ _ _ c.get_interaction_lists-listed.ensures.v_starts) (filled-as c.args.b c.args.key.now c.args.own.now c.args.begin.now c.args.total.now c.args.targets.now (length c.args.u_starts.now) (length c.args.u_keys.now) (length c.args.v_starts.now) (length c.args.v_keys.now) (length c.args.counts.now) _ q _ _ _ c.get_interaction_lists-listed.ensures.v_keys)) in record { answer = c.write_listing.ensures.answer ∙ ap (text_answer (length c.args.out.now)) e; text = c.write_listing.ensures.text ∙ ap (text_left (length c.args.out.now)) e; u_starts = c.get_interaction_lists-listed.ensures.u_starts; u_keys = c.get_interaction_lists-listed.ensures.u_keys; v_starts = c.get_interaction_lists-listed.ensures.v_starts; v_keys = c.get_interaction_lists-listed.ensures.v_keys; counts = counts_are c.args.b c.args.key.now c.args.own.now c.args.begin.now c.args.total.now c.args.targets.now (length c.args.u_starts.now) (length c.args.u_keys.now) (length c.args.v_starts.now) (length c.args.v_keys.now) (length c.args.counts.now) _ q _ c.get_near_work-answer.ensures.counts }
