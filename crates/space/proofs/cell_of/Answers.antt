-- `space::cell_of` meets its contract: the cell, or the wall.
use mathlib.Core.Path.{sym, ◌∙◌}
use Rattle.space.specs.Floats.{floor}
use Rattle.space.specs.Cells.{wall_by}
use Rattle.space.proofs.Points.{with_number, with-wall}
use Rattle.space.proofs.cell_of.Goals as goal

pub returns-in-Some : goal.returns-in-Some
returns-in-Some c = with_number 65536 (floor c.args.q) (wall_by c.args.x c.args.q) c.in-Some.k (sym c.number_of-cell.ensures ∙ c.in-Some.is)

pub returns-in-None : goal.returns-in-None
returns-in-None c = c.wall_by.ensures ∙ with-wall 65536 (floor c.args.q) (wall_by c.args.x c.args.q) (sym c.number_of-cell.ensures ∙ c.in-None.is)
