-- `run_copies::copy_runs` meets its contract.
use Rattle.run_copies.proofs.Copying.{Running}
use Rattle.run_copies.proofs.copy_runs.Given as goal

abbrev pub invariant-loop-q : goal.invariant-loop-q
invariant-loop-q l = Running l.order l.begin l.own l.initial.out l.out l.at l.q
