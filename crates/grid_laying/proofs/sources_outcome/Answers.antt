-- `grid_laying::sources_outcome` meets its contract.
use mathlib.Core.Path.{sym, ap, ◌∙◌}
use Rattle.refusal.specs.Outcome.{Outcome}
use Rattle.refusal.specs.Chain.{◌then◌}
use Rattle.refusal.specs.declared.Refusal.TheVariants.{Source}
use Rattle.space.proofs.Refusals.{fine}
use Rattle.laying.proofs.Inside.{wall-mapped}
use Rattle.grid_laying.proofs.Chains.{sources-walls}
use Rattle.grid_laying.proofs.sources_outcome.Goals as goal

pub first_outside-requires : goal.first_outside-requires
first_outside-requires c = (fine c.args.b c.requires).least

pub returns : goal.returns
returns c = wall-mapped Source _ _ _ c.first_outside.ensures c.map_err.ensures.cases ∙ sym (sources-walls c.args.b c.args.sources.now)
