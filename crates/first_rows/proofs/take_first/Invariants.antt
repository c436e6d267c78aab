-- `first_rows::take_first` meets its contract.
use mathlib.Core.Path.{◌≡◌}
use lib.ListN.{length}
use Rattle.first_rows.proofs.Filling.{From}
use Rattle.first_rows.proofs.take_first.Given as goal

abbrev pub invariant-loop-i : goal.invariant-loop-i
invariant-loop-i l = From l.key l.rows l.column l.out l.i × (length l.out ≡ length l.initial.out)
