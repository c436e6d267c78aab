-- `sum_check::first_large` meets its contract.
use Rattle.sum_check.proofs.Readings.{Looking}
use Rattle.sum_check.proofs.first_large.Given as goal

abbrev pub invariant-loop-i : goal.invariant-loop-i
invariant-loop-i l = Looking l.readings l.i
