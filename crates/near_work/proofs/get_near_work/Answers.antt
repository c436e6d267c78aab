-- `near_work::get_near_work` meets its contract.
use native.Mathlib.Omega.{arith}
use mathlib.Core.Path.{refl, sym, ap, ◌∙◌}
use mathlib.Core.List.{map}
use lib.ListN.{length}
use Rattle.slices.specs.Lists.{filled}
use Rattle.near_work.specs.Work.{weights}
use Rattle.near_work.proofs.Counts.{zeros-long, zeros-self, counts-ready, counts-work}
use Rattle.refusal.proofs.Chain.{passed-on}
use Rattle.near_work.proofs.Checks.{ready, refused-answer, refused-left, early, late, done-answer, done-left}
use Rattle.near_work.proofs.get_near_work.Goals as goal

pub returns-in_err-checked : goal.returns-in_err-checked
returns-in_err-checked c = let e = passed-on _ _ c.from_residual.ensures.1 in let h = early c.args.b c.args.key.now c.args.own.now c.args.begin.now c.args.total.now c.args.targets.now (length c.args.counts.now) _ (sym c.room_outcome-checked.ensures ∙ c.in_err-checked.was) in record { answer = e ∙ refused-answer c.args.b c.args.key.now c.args.own.now c.args.begin.now c.args.total.now c.args.targets.now (length c.args.counts.now) _ h; counts = refused-left c.args.b c.args.key.now c.args.own.now c.args.begin.now c.args.total.now c.args.targets.now (length c.args.counts.now) _ h _ _ refl c.clear_usize.ensures; bounded = rw e tt }

pub fill_counts-requires : goal.fill_counts-requires
fill_counts-requires c = let P = ready c.args.b c.args.key.now c.args.own.now c.args.begin.now c.args.total.now (length c.args.targets.now) (length c.args.counts.now) (sym c.room_outcome-checked.ensures ∙ c.in_ok-checked.was) in record { sound_tree = (P.tree, P.few); key_in_bounds = (omega (arith, P.fits, zeros-long c.clear_usize.new.column (length c.args.counts.now) c.clear_usize.ensures), zeros-self c.clear_usize.new.column (length c.args.counts.now) c.clear_usize.ensures) }

pub returns-in-Err : goal.returns-in-Err
returns-in-Err c = let h = late c.args.b c.args.key.now c.args.own.now c.args.begin.now c.args.total.now c.args.targets.now (length c.args.counts.now) (sym c.room_outcome-checked.ensures ∙ c.in_ok-checked.was) _ (sym c.fill_counts.ensures.value ∙ c.in-Err.is) in record { answer = refused-answer c.args.b c.args.key.now c.args.own.now c.args.begin.now c.args.total.now c.args.targets.now (length c.args.counts.now) _ h; counts = refused-left c.args.b c.args.key.now c.args.own.now c.args.begin.now c.args.total.now c.args.targets.now (length c.args.counts.now) _ h _ (length c.fill_counts.new.counts) (c.fill_counts.auto.counts ∙ zeros-long c.clear_usize.new.column (length c.args.counts.now) c.clear_usize.ensures) c.clear_usize-in-Err.ensures; bounded = tt }

pub sum_up-requires : goal.sum_up-requires
sum_up-requires c = let P = ready c.args.b c.args.key.now c.args.own.now c.args.begin.now c.args.total.now (length c.args.targets.now) (length c.args.counts.now) (sym c.room_outcome-checked.ensures ∙ c.in_ok-checked.was) in record { sound_tree = (P.tree, P.totals); weights = counts-ready c.args.b c.args.key.now c.args.own.now P.tree c.args.targets.now (sym c.fill_counts.ensures.value ∙ c.in_default.is) P.few (length c.clear_usize.new.column) (omega (arith, P.fits, zeros-long c.clear_usize.new.column (length c.args.counts.now) c.clear_usize.ensures)) _ (c.fill_counts.ensures.counts_after (sym c.fill_counts.ensures.value ∙ c.in_default.is)) }

pub returns : goal.returns
returns c = let P = ready c.args.b c.args.key.now c.args.own.now c.args.begin.now c.args.total.now (length c.args.targets.now) (length c.args.counts.now) (sym c.room_outcome-checked.ensures ∙ c.in_ok-checked.was) in record { answer = done-answer c.args.b c.args.key.now c.args.own.now c.args.begin.now c.args.total.now c.args.targets.now (length c.args.counts.now) (sym c.room_outcome-checked.ensures ∙ c.in_ok-checked.was) (sym c.fill_counts.ensures.value ∙ c.in_default.is) _ (c.sum_up.ensures.work.0 ∙ counts-work c.args.b c.args.key.now c.args.own.now P.tree c.args.targets.now (sym c.fill_counts.ensures.value ∙ c.in_default.is) P.few (length c.clear_usize.new.column) (omega (arith, P.fits, zeros-long c.clear_usize.new.column (length c.args.counts.now) c.clear_usize.ensures)) _ (c.fill_counts.ensures.counts_after (sym c.fill_counts.ensures.value ∙ c.in_default.is))); counts = done-left c.args.b c.args.key.now c.args.own.now c.args.begin.now c.args.total.now c.args.targets.now (length c.args.counts.now) (sym c.room_outcome-checked.ensures ∙ c.in_ok-checked.was) (sym c.fill_counts.ensures.value ∙ c.in_default.is) _ (c.sum_up.ensures.counts ∙ c.fill_counts.ensures.counts_after (sym c.fill_counts.ensures.value ∙ c.in_default.is) ∙ ap (λ m. filled m (map (weights c.args.b c.args.key.now c.args.own.now c.args.targets.now) c.args.key.now)) (zeros-long c.clear_usize.new.column (length c.args.counts.now) c.clear_usize.ensures)); bounded = c.sum_up.ensures.work.1 }
