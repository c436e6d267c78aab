-- After n turns the array holds the first n axes' anchors.
use mathlib.Core.List.{map}
use lib.ListN.{get_or}
use Rattle.slices.specs.Lists.{range}
use Rattle.morton.proofs.Runs.{Held}
use Rattle.anchors.proofs.on_axes.Given as goal

abbrev pub invariant-loop-a : goal.invariant-loop-a
invariant-loop-a l = Held 3 l.used l.a (map (λ a. get_or l.anchor a 0) (range 0 l.a))
