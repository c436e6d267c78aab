-- `grids::first_outside` meets its contract.
use mathlib.Core.Path.{sym, ap, ◌∙◌}
use native.Mathlib.Omega.{arith}
use Rattle.grids.proofs.Totals.{outside_told, exit-row, wall-same}
use Rattle.grids.proofs.first_outside.Goals as goal
use Rattle.std.specs.Prelude.{Err, None, Some}

pub row_point-point-requires : goal.row_point-point-requires
row_point-point-requires c = (c.requires.most, c.requires.known, omega (arith, exit-row c.args.f c.args.g c.requires c.grid_exit.result c.in-Some.exit c.grid_exit.ensures c.in-Some.is, c.requires.few))

pub returns-in_default : goal.returns-in_default
returns-in_default c = outside_told c.args.f c.args.g c.requires None (sym c.in_default.is ∙ c.grid_exit.ensures)

pub returns : goal.returns
returns c = ap Err (c.wall_of.ensures ∙ wall-same c.args.f c.args.g c.requires c.in-Some.exit.row (exit-row c.args.f c.args.g c.requires c.grid_exit.result c.in-Some.exit c.grid_exit.ensures c.in-Some.is) c.row_point-point.result c.row_point-point.ensures) ∙ outside_told c.args.f c.args.g c.requires (Some c.in-Some.exit) (sym c.in-Some.is ∙ c.grid_exit.ensures)
