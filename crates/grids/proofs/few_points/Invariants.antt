-- `grids::few_points` meets its contract: n is the product of the first a shapes.
use Rattle.grids.proofs.Sized.{Multiplied}
use Rattle.grids.proofs.few_points.Given as goal

abbrev pub invariant-loop-a : goal.invariant-loop-a
invariant-loop-a l = Multiplied l.axes l.g l.n l.a
