-- `run_copies::copy_run` meets its contract.
use Rattle.run_copies.proofs.Copying.{Copied}
use Rattle.run_copies.proofs.copy_run.Given as goal

abbrev pub invariant-loop-j : goal.invariant-loop-j
invariant-loop-j l = Copied l.order l.from l.n l.initial.out l.at l.out l.j
