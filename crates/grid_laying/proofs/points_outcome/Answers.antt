-- `grid_laying::points_outcome` meets its contract.
use mathlib.Core.Path.{sym, subst, ◌∙◌}
use Rattle.refusal.specs.declared.Refusal.TheVariants.{Point}
use Rattle.space.specs.declared.Frame.{Frame}
use Rattle.laying.proofs.Inside.{wall-mapped}
use Rattle.grids.specs.Grids.{listed}
use Rattle.grids.specs.Ranges.{Fitting}
use Rattle.grid_laying.proofs.Chains.{points-walls, sited-box, sited-fits, points-out}
use Rattle.grid_laying.proofs.points_outcome.Goals as goal

pub first_outside-requires : goal.first_outside-requires
first_outside-requires c = subst (λ (f : Frame). Fitting f c.args.grid) (sym c.frame_of.ensures) (sited-fits c.args.b c.args.grid c.requires)

pub returns : goal.returns
returns c = wall-mapped Point _ _ _ (points-out c.args.b c.args.grid (sited-box c.args.b c.args.grid c.requires).least c.frame_of.result c.frame_of.ensures c.first_outside.result c.first_outside.ensures) c.map_err.ensures.cases ∙ sym (points-walls c.args.b (listed c.args.b.axes c.args.grid))
