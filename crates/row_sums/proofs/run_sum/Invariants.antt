-- `row_sums::run_sum` meets its contract.
use Rattle.row_sums.proofs.Runs.{Running}
use Rattle.row_sums.proofs.run_sum.Given as goal

abbrev pub invariant-loop-i : goal.invariant-loop-i
invariant-loop-i l = Running l.indices l.readings l.from l.count l.sum l.i
