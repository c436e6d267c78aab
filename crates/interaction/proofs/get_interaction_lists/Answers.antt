-- `interaction::get_interaction_lists` meets its contract.
use mathlib.Core.Path.{refl, sym, ◌∙◌}
use lib.ListN.{length}
use Rattle.refusal.proofs.Left.{left-refused}
use Rattle.slices.proofs.Tests.{clash}
use Rattle.sourced.proofs.Checks.{passed-totals}
use Rattle.interaction.proofs.Checks.{ready, early, told-refused}
use Rattle.interaction.proofs.Contents.{promised}
use Rattle.interaction.proofs.get_interaction_lists.Goals as goal

pub returns-in-Err : goal.returns-in-Err
returns-in-Err c = let e = early c.args.axes c.args.key.now c.args.own.now c.args.begin.now c.args.total.now (length c.args.u_starts.now) (length c.args.u_keys.now) (length c.args.v_starts.now) (length c.args.v_keys.now) _ (sym c.starts_outcome-checked.ensures ∙ c.in-Err.is) in let o = told-refused c.args.axes c.args.key.now c.args.own.now c.args.begin.now c.args.total.now (length c.args.u_starts.now) (length c.args.u_keys.now) (length c.args.v_starts.now) (length c.args.v_keys.now) _ e in record { answer = e; u_starts = left-refused _ _ _ _ _ _ o refl c.clear_lists.ensures.u_starts_after; u_keys = left-refused _ _ _ _ _ _ o refl c.clear_lists.ensures.u_keys_after; v_starts = left-refused _ _ _ _ _ _ o refl c.clear_lists.ensures.v_starts_after; v_keys = left-refused _ _ _ _ _ _ o refl c.clear_lists.ensures.v_keys_after; once = λ q. absurd (clash q refl); near = λ q. absurd (clash q refl); far = λ q. absurd (clash q refl); few = λ q. absurd (clash q refl) }

pub write_lists-requires : goal.write_lists-requires
write_lists-requires c = let r = ready c.args.axes c.args.key.now c.args.own.now c.args.begin.now c.args.total.now (length c.args.u_starts.now) (length c.args.v_starts.now) (sym c.starts_outcome-checked.ensures ∙ c.in_default.is) in (r.sound, r.u, r.v, passed-totals c.args.axes c.args.key.now c.args.own.now c.args.begin.now c.args.total.now r.tree)

pub returns : goal.returns
returns c = let p = promised c.args.axes c.args.key.now c.args.own.now c.args.begin.now c.args.total.now c.args.u_starts.now c.args.u_keys.now c.args.v_starts.now c.args.v_keys.now _ _ _ _ (sym c.starts_outcome-checked.ensures ∙ c.in_default.is) _ c.write_lists.ensures in record { answer = p.answer; u_starts = p.u_starts; u_keys = p.u_keys; v_starts = p.v_starts; v_keys = p.v_keys; once = λ q. (p.rows q).0; near = λ q. (p.rows q).1; far = λ q. (p.rows q).2; few = λ q. (p.rows q).3 }
