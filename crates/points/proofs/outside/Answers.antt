-- `points::outside` meets its contract.
use Rattle.std.proofs.Common.{rules}
use mathlib.Core.Path.{◌≡◌, ap, ◌∙◌}
use native.Mathlib.Omega.{arith}
use lib.ListN.{length}
use Rattle.refusal.specs.declared.Refusal.TheVariants.{Point}
use Rattle.space.specs.Walls.{first_wall}
use Rattle.points.proofs.outside.Goals as goal

pub wall_of-requires : goal.wall_of-requires
wall_of-requires c = let n : length c.args.point ≡ 3 = search rules in
    omega (arith, c.requires, ap (λ f. f.axes) c.frame_of.ensures, n)

pub returns : goal.returns
returns c = ap Point (c.wall_of.ensures ∙ ap (λ f. first_wall 0 f c.args.point) c.frame_of.ensures)
