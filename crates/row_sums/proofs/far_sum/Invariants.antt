-- `row_sums::far_sum` meets its contract.
use Rattle.row_sums.proofs.Climbing.{Climbing}
use Rattle.morton.specs.Keys.{level_of}
use lib.ListN.{get_or}
use Rattle.row_sums.proofs.far_sum.Given as goal

abbrev pub invariant-loop-axes : goal.invariant-loop-axes
invariant-loop-axes l = Climbing l.axes l.key l.total l.begin l.indices l.readings l.starts l.flat l.node l.sum l.cells l.at

abbrev pub decreases-loop-axes : goal.decreases-loop-axes
decreases-loop-axes l = level_of (get_or l.key l.at 0)
