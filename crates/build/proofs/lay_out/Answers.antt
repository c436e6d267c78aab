-- `build::lay_out` meets its contract.
use mathlib.Core.Path.{refl, sym, ap, ◌∙◌}
use mathlib.Core.Bool.{true}
use native.Mathlib.Omega.{arith}
use lib.ListN.{length}
use Rattle.refusal.proofs.Chain.{passed-on}
use Rattle.refusal.specs.Outcome.{Answer, ending}
use Rattle.laying.proofs.Prepared.{passed}
use Rattle.parting.specs.declared.Sizes.{Sizes}
use Rattle.build.specs.Asked.{asks}
use Rattle.build.proofs.Growing.{work-sourced, work-laid}
use Rattle.build.proofs.Answers.{refused-so, short-so, laid_so}
use Rattle.build.proofs.lay_out.Goals as goal

pub returns-in_err-prepare-clause-outcome_value : goal.returns-in_err-prepare-clause-outcome_value
returns-in_err-prepare-clause-outcome_value c = refused-so (asks c.args.b 0 c.args.order true c.args.sources.now c.args.targets.now) (length c.args.work.now) (length c.args.indices.now) _ _ (ap (λ (a : Answer Sizes). ending a) (passed-on _ _ c.from_residual.ensures.1)) (sym c.prepare.ensures.value ∙ c.in_err-prepare.was)

pub returns-then-indices-rows : goal.returns-then-indices-rows
returns-then-indices-rows c = record { outcome_value = short-so (asks c.args.b 0 c.args.order true c.args.sources.now c.args.targets.now) (length c.args.work.now) (length c.args.indices.now) _ refl (sym c.prepare.ensures.value ∙ c.in_ok-prepare.was) c.if-indices-rows.true; laid_out = tt }

pub sum_sources-depth-requires : goal.sum_sources-depth-requires
sum_sources-depth-requires c = let p = passed c.args.b c.args.sources.now c.args.targets.now c.args.order (length c.args.work.now) (sym c.prepare.ensures.value ∙ c.in_ok-prepare.was) in work-sourced (asks c.args.b 0 c.args.order true c.args.sources.now c.args.targets.now) (length c.args.work.now) p c.prepare.new.work c.prepare.auto.work (c.prepare.ensures.points_laid c.in_ok-prepare.was) (length c.args.indices.now) (omega (arith, c.if-indices-rows.false))

pub returns : goal.returns
returns c =
    let p = passed c.args.b c.args.sources.now c.args.targets.now c.args.order (length c.args.work.now) (sym c.prepare.ensures.value ∙ c.in_ok-prepare.was) in
    record {
      outcome_value = laid_so (asks c.args.b 0 c.args.order true c.args.sources.now c.args.targets.now) (length c.args.work.now) (length c.args.indices.now) (sym c.prepare.ensures.value ∙ c.in_ok-prepare.was) (omega (arith, c.if-indices-rows.false));
      laid_out = λ limit keep. work-laid (asks c.args.b limit c.args.order keep c.args.sources.now c.args.targets.now) (length c.args.work.now) p c.prepare.new.work c.prepare.auto.work (c.prepare.ensures.points_laid c.in_ok-prepare.was) c.sum_sources-depth.result c.args.room c.sum_sources-depth.new.indices c.sizes_of.result c.sizes_of.ensures (omega (arith, c.if-indices-rows.false, c.sum_sources-depth.auto.indices)) c.sum_sources-depth.ensures;
    }

pub nonzero_div-rows : goal.nonzero_div-rows
nonzero_div-rows c = let p = passed c.args.b c.args.sources.now c.args.targets.now c.args.order (length c.args.work.now) (sym c.prepare.ensures.value ∙ c.in_ok-prepare.was) in omega (arith, p.call.box.least)

pub nonzero_div-marks : goal.nonzero_div-marks
nonzero_div-marks c = let p = passed c.args.b c.args.sources.now c.args.targets.now c.args.order (length c.args.work.now) (sym c.prepare.ensures.value ∙ c.in_ok-prepare.was) in omega (arith, p.call.box.least)
