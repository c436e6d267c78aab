-- After the rows passed the array holds the neighbours along them.
use mathlib.Core.List.{map}
use Rattle.slices.specs.Lists.{range, filter}
use Rattle.neighbours.specs.Directions.{on_box, toward}
use Rattle.morton.proofs.Runs.{Held}
use Rattle.neighbours.proofs.list_along.Given as goal

abbrev pub invariant-loop-row : goal.invariant-loop-row
invariant-loop-row l = Held 26 l.found l.len (map (toward l.axes l.key) (filter (on_box l.axes l.key) (range 0 l.row-index)))
