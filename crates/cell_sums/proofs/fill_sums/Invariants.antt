-- `cell_sums::fill_sums` meets its contract.
use Rattle.cell_sums.proofs.Runs.{Filling}
use lib.ListN.{length}
use mathlib.Core.Path.{◌≡◌}
use Rattle.cell_sums.proofs.fill_sums.Given as goal

abbrev pub invariant-loop-i : goal.invariant-loop-i
invariant-loop-i l = (length l.sums ≡ length l.initial.sums) × Filling l.indices l.readings l.sums l.sum l.i
