-- `salvage_start::sum_own` meets its contract.
use Rattle.salvage_start.proofs.Filling.{Adding}
use Rattle.salvage_start.proofs.sum_own.Given as goal

abbrev pub invariant-loop-n : goal.invariant-loop-n
invariant-loop-n l = Adding l.own l.run l.n-index
