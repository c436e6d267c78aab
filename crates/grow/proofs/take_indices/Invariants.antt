-- `grow::take_indices` meets its contract.
use Rattle.grow.proofs.Ending.{Taking}
use Rattle.grow.proofs.take_indices.Given as goal

abbrev pub invariant-loop-i : goal.invariant-loop-i
invariant-loop-i l = Taking l.n l.work l.initial.order l.order l.i
