-- `build::on_grid::sizes_on_grid` meets its contract.
use mathlib.Core.Path.{◌≡◌, refl, sym, subst}
use Rattle.axes.proofs.Known.{axes-known}
use Rattle.parting.proofs.Root.{root-good}
use Rattle.morton.specs.Keys.{ValidKey}
use native.Mathlib.Omega.{arith}
use Rattle.space.specs.declared.Frame.{Frame}
use Rattle.space.specs.Rows.{first_outside}
use Rattle.space.specs.Cells.{frame_of}
use Rattle.grids.specs.Grids.{points_of, listed}
use Rattle.grids.specs.Ranges.{Fitting}
use Rattle.grids.specs.Spans.{Spanned}
use Rattle.grids.proofs.Halves.{whole-spanned}
use Rattle.grid_laying.proofs.Chains.{sited-box, sited-fits, sited-inside}
use Rattle.build.proofs.on_grid.sizes_on_grid.Goals as goal
use Rattle.space.specs.Inside.{all_inside}

pub parted-span-requires : goal.parted-span-requires
parted-span-requires c = let e = sym c.frame_of-frame.ensures in let fits = sited-fits c.args.b c.args.grid c.requires.0 in let box = sited-box c.args.b c.args.grid c.requires.0 in (subst (λ (x : Frame). Fitting x c.args.grid) e fits, subst (λ (x : Frame). ValidKey x.axes 0) e (root-good c.args.b.axes (axes-known c.args.b.axes box.least box.most)), omega arith, subst (λ (x : Frame). Spanned x c.args.grid 0 c.whole-whole.result) e (whole-spanned (frame_of c.args.b) c.args.grid fits (sited-inside c.args.b c.args.grid c.requires.0 c.requires.1) c.whole-whole.result c.whole-whole.ensures))

pub returns : goal.returns
returns c = let e = sym c.frame_of-frame.ensures in let fits = sited-fits c.args.b c.args.grid c.requires.0 in let fit = subst (λ (x : Frame). Fitting x c.args.grid) e fits in let axes = subst (λ (x : Frame). x.axes ≡ c.args.b.axes) e refl in record { sources_are = refl; some = refl; room_is = refl; depth_is = refl; on = refl; frame_is = c.frame_of-frame.ensures; grid_is = refl; gridded = record { fits = fit; axes = axes; inside = subst (λ (x : Frame). first_outside (points_of x.axes c.args.grid) x (listed x.axes c.args.grid) ≡ all_inside) e (sited-inside c.args.b c.args.grid c.requires.0 c.requires.1) }; spanned = λ on. record { fits = fit; axes = axes; parted = c.parted-span.ensures } }
