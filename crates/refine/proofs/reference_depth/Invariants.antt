-- At each turn the search from the depth reached answers the reference depth.
use Rattle.refine.proofs.Depths.{Sought}
use Rattle.refine.proofs.reference_depth.Given as goal

abbrev pub invariant-loop-depth : goal.invariant-loop-depth
invariant-loop-depth l = Sought l.axes l.sources l.depth
