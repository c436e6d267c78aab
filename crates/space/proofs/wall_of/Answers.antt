-- `space::wall_of` meets its contract: axis 0, 1 or 2 decides.
use mathlib.Core.Path.{ap, ◌∙◌}
use lib.ListN.{drop}
use Rattle.space.specs.Walls.{reason_of}
use Rattle.space.proofs.Walls.{wall-0, wall-1, wall-2}
use Rattle.space.proofs.wall_of.Goals as goal

pub returns-then-x-ne0 : goal.returns-then-x-ne0
returns-then-x-ne0 c = let xs = drop c.args.at c.args.points.now in wall-0 c.args.index c.args.f xs c.reason_of-x.result (c.reason_of-x.ensures ∙ ap reason_of c.place_on.ensures) c.behind.result c.behind.ensures c.if-x-ne0.true

pub returns-then-y-ne0 : goal.returns-then-y-ne0
returns-then-y-ne0 c = let xs = drop c.args.at c.args.points.now in wall-1 c.args.index c.args.f xs c.reason_of-x.result (c.reason_of-x.ensures ∙ ap reason_of c.place_on.ensures) c.if-x-ne0.false c.reason_of-y.result (c.reason_of-y.ensures ∙ ap reason_of c.place_on-2.ensures) c.behind-then-y-ne0.result c.behind-then-y-ne0.ensures c.if-y-ne0.true

pub returns : goal.returns
returns c = let xs = drop c.args.at c.args.points.now in wall-2 c.args.index c.args.f xs c.reason_of-x.result (c.reason_of-x.ensures ∙ ap reason_of c.place_on.ensures) c.if-x-ne0.false c.reason_of-y.result (c.reason_of-y.ensures ∙ ap reason_of c.place_on-2.ensures) c.if-y-ne0.false c.reason_of.result (c.reason_of.ensures ∙ ap reason_of c.place_on-3.ensures) c.behind-2.result c.behind-2.ensures
