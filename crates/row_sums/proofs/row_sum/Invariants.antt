-- `row_sums::row_sum` meets its contract.
use Rattle.row_sums.proofs.Walk.{Walking}
use lib.ListN.{length}
use Prim.Native.Nat.{◌-◌}
use Rattle.row_sums.proofs.row_sum.Given as goal

abbrev pub invariant-loop-step : goal.invariant-loop-step
invariant-loop-step l = Walking l.axes l.key l.count l.begin l.indices l.readings l.row l.sum l.at

abbrev pub decreases-loop-step : goal.decreases-loop-step
decreases-loop-step l = length l.row - l.at
