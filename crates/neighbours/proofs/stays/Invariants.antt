-- The axes are tested from the last to the first; on those passed the step stays in the box.
use mathlib.Core.Path.{◌≡◌}
use Rattle.neighbours.specs.Directions.{stays}
use Rattle.neighbours.proofs.stays.Given as goal

abbrev pub invariant-loop-n : goal.invariant-loop-n
invariant-loop-n l = stays l.n l.level l.from l.row ≡ stays l.axes l.level l.from l.row
