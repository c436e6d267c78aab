-- `build::on_grid::lay_on_grid` meets its contract.
use mathlib.Core.Path.{refl, sym, ap, ◌∙◌}
use mathlib.Core.Bool.{true}
use mathlib.Core.List.{[]}
use native.Mathlib.Omega.{arith}
use lib.ListN.{length}
use Rattle.refusal.proofs.Chain.{passed-on}
use Rattle.refusal.specs.Outcome.{Answer, ending}
use Rattle.parting.specs.declared.Sizes.{Sizes}
use Rattle.build.specs.Asked.{asks_at}
use Rattle.build.proofs.Answers.{refused-so, short-so, laid_so}
use Rattle.build.proofs.OnGrid.{grid-sourced, grid-laid}
use Rattle.build.proofs.on_grid.lay_on_grid.Goals as goal

pub returns-in_err-prepare-clause-outcome_value : goal.returns-in_err-prepare-clause-outcome_value
returns-in_err-prepare-clause-outcome_value c = refused-so (asks_at c.args.b 0 c.args.order true c.args.sources.now [] true c.args.grid) (length c.args.work.now) (length c.args.indices.now) _ _ (ap (λ (a : Answer Sizes). ending a) (passed-on _ _ c.from_residual.ensures.1)) (sym c.prepare.ensures.value ∙ c.in_err-prepare.was)

pub returns-then-indices-rows : goal.returns-then-indices-rows
returns-then-indices-rows c = record { outcome_value = short-so (asks_at c.args.b 0 c.args.order true c.args.sources.now [] true c.args.grid) (length c.args.work.now) (length c.args.indices.now) _ refl (sym c.prepare.ensures.value ∙ c.in_ok-prepare.was) c.if-indices-rows.true; laid_out = tt }

pub sum_sources-depth-requires : goal.sum_sources-depth-requires
sum_sources-depth-requires c = grid-sourced c.args.b c.args.sources.now c.args.grid c.args.order c.prepare.new.work (c.prepare.ensures.grid_laid c.in_ok-prepare.was) (length c.args.indices.now) (omega (arith, c.if-indices-rows.false))

pub sizes_on_grid-requires : goal.sizes_on_grid-requires
sizes_on_grid-requires c = let g = c.prepare.ensures.grid_laid c.in_ok-prepare.was in (g.sited, g.inside)

pub returns : goal.returns
returns c = record { outcome_value = laid_so (asks_at c.args.b 0 c.args.order true c.args.sources.now [] true c.args.grid) (length c.args.work.now) (length c.args.indices.now) (sym c.prepare.ensures.value ∙ c.in_ok-prepare.was) (omega (arith, c.if-indices-rows.false)); laid_out = λ limit keep. grid-laid c.args.b c.args.sources.now c.args.grid c.args.order c.prepare.new.work (c.prepare.ensures.grid_laid c.in_ok-prepare.was) (asks_at c.args.b limit c.args.order keep c.args.sources.now [] true c.args.grid) refl refl refl refl c.sum_sources-depth.result c.args.room c.sum_sources-depth.new.indices c.sizes_on_grid.result c.sizes_on_grid.ensures (omega (arith, c.if-indices-rows.false, c.sum_sources-depth.auto.indices)) c.sum_sources-depth.ensures }
