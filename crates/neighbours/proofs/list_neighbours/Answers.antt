-- By the number of axes: each table has that number's rows.
use mathlib.Core.Path.{◌≡◌, ap}
use native.Mathlib.Omega.{arith}
use Rattle.neighbours.specs.Directions.{directions}
use Rattle.neighbours.proofs.list_neighbours.Goals as goal

pub list_along-requires : goal.list_along-requires
list_along-requires c = let e : 1 ≡ c.args.axes = omega arith in (c.requires, ap directions e)

pub list_along-requires-in-2 : goal.list_along-requires-in-2
list_along-requires-in-2 c = let e : 2 ≡ c.args.axes = omega arith in (c.requires, ap directions e)

pub list_along-requires-in_default : goal.list_along-requires-in_default
list_along-requires-in_default c = let e : 3 ≡ c.args.axes = omega (arith, c.requires.some, c.requires.most) in (c.requires, ap directions e)

pub returns-in-1 : goal.returns-in-1
returns-in-1 c = c.list_along.ensures

pub returns-in-2 : goal.returns-in-2
returns-in-2 c = c.list_along-in-2.ensures

pub returns-in_default : goal.returns-in_default
returns-in_default c = c.list_along-in_default.ensures
