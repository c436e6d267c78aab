-- `run_begins::fill_begins` meets its contract.
use mathlib.Core.Path.{◌≡◌}
use lib.ListN.{length}
use Rattle.run_begins.proofs.Running.{Running}
use Rattle.run_begins.proofs.fill_begins.Given as goal

abbrev pub invariant-loop-q : goal.invariant-loop-q
invariant-loop-q l = Running l.own l.begin l.run l.q × (length l.begin ≡ length l.initial.begin)
