-- `space::place_on` meets its contract.
use Rattle.space.proofs.Points.{cell-past, cell-read}
use lib.ListN.{drop}
use Rattle.space.proofs.place_on.Goals as goal

pub returns-then-a-f : goal.returns-then-a-f
returns-then-a-f c = cell-past c.args.f (drop c.args.at c.args.points.now) c.args.a c.if-a-f.true

pub returns : goal.returns
returns c = cell-read c.args.f c.args.points.now c.args.at c.args.a c.cell_of.result c.if-a-f.false c.cell_of.ensures
