-- `grid_laying::short_work` meets its contract.
use mathlib.Core.Path.{sym, ap, ◌∙◌}
use Rattle.refusal.specs.declared.Refusal.TheVariants.{Room}
use Rattle.refusal.specs.Chain.{◌then◌}
use Rattle.refusal.proofs.Chain.{passed-on}
use Rattle.grids.specs.Grids.{listed}
use Rattle.grid_laying.proofs.Chains.{sources-first, points-then}
use Rattle.grid_laying.proofs.short_work.Goals as goal
use Rattle.refusal.specs.Outcome.{Outcome}
use Rattle.std.specs.Prelude.{Err}

pub sources_outcome-requires : goal.sources_outcome-requires
sources_outcome-requires c = c.requires.box

pub returns-in_err-sources_outcome : goal.returns-in_err-sources_outcome
returns-in_err-sources_outcome c = passed-on _ _ c.from_residual.ensures.1 ∙ sym (ap (λ (o : Outcome). o then Err (Room 1)) (sources-first c.args.b c.args.sources.now (listed c.args.b.axes c.args.grid) _ (sym c.sources_outcome.ensures ∙ c.in_err-sources_outcome.was)))

pub returns-in_err-points_outcome : goal.returns-in_err-points_outcome
returns-in_err-points_outcome c = passed-on _ _ c.from_residual-in_err-points_outcome.ensures.1 ∙ sym (ap (λ (o : Outcome). o then Err (Room 1)) (points-then c.args.b c.args.sources.now (listed c.args.b.axes c.args.grid) (sym c.sources_outcome.ensures ∙ c.in_ok-sources_outcome.was) ∙ sym c.points_outcome.ensures ∙ c.in_err-points_outcome.was))

pub returns : goal.returns
returns c = sym (ap (λ (o : Outcome). o then Err (Room 1)) (points-then c.args.b c.args.sources.now (listed c.args.b.axes c.args.grid) (sym c.sources_outcome.ensures ∙ c.in_ok-sources_outcome.was) ∙ sym c.points_outcome.ensures ∙ c.in_ok-points_outcome.was))
