-- At each turn the array holds the cells from the key up to the one reached, and the cells above that are left.
use Rattle.morton.specs.Keys.{level_of}
use Rattle.morton.proofs.Runs.{Climbed}
use Rattle.morton.proofs.keys.list_ancestors.Given as goal

abbrev pub invariant-loop-at : goal.invariant-loop-at
invariant-loop-at l = Climbed l.axes l.key l.keys l.at l.len

abbrev pub decreases-loop-at : goal.decreases-loop-at
decreases-loop-at l = level_of l.at
