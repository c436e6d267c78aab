-- `space::cell_on` meets its contract.
use Rattle.space.proofs.Points.{number_past, number_read}
use lib.ListN.{drop}
use Rattle.space.proofs.cell_on.Goals as goal

pub returns-then-a-f : goal.returns-then-a-f
returns-then-a-f c = number_past c.args.f (drop c.args.at c.args.points.now) c.args.a c.if-a-f.true

pub returns : goal.returns
returns c = number_read c.args.f c.args.points.now c.args.at c.args.a c.number_of.result c.if-a-f.false c.number_of.ensures
