-- After n turns the array holds the first n axes' anchors.
use mathlib.Core.List.{map}
use lib.IntN.{nat_abs}
use Rattle.slices.specs.Lists.{range}
use Rattle.neighbours.specs.Directions.{ahead}
use Rattle.morton.proofs.Runs.{Held}
use Rattle.neighbours.proofs.moved.Given as goal

abbrev pub invariant-loop-a : goal.invariant-loop-a
invariant-loop-a l = Held 3 l.to l.a (map (λ a. nat_abs (ahead l.from l.row a)) (range 0 l.a))
