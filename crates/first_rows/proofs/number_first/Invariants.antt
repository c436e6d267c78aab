-- `first_rows::number_first` meets its contract.
use mathlib.Core.Path.{◌≡◌}
use lib.ListN.{length}
use Rattle.slices.specs.Lists.{range}
use Rattle.first_rows.proofs.Filling.{From}
use Rattle.first_rows.proofs.number_first.Given as goal

abbrev pub invariant-loop-i : goal.invariant-loop-i
invariant-loop-i l = From l.key l.rows (range 1 (length l.rows)) l.out l.i × (length l.out ≡ length l.initial.out)
