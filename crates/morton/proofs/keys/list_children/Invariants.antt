-- After c turns the array holds the first c children.
use mathlib.Core.List.{map}
use Rattle.slices.specs.Lists.{range}
use Rattle.morton.specs.Keys.{child}
use Rattle.morton.proofs.Runs.{Held}
use Rattle.morton.proofs.keys.list_children.Given as goal

abbrev pub invariant-loop-c : goal.invariant-loop-c
invariant-loop-c l = Held 26 l.keys l.c (map (child l.axes l.key) (range 0 l.c))
