-- `file_rows::first_from` meets its contract.
use Prim.Native.Nat.{◌-◌}
use Rattle.tree_file.specs.Trailer.{column_in}
use Rattle.tree.proofs.Finding.{Split}
use Rattle.file_rows.proofs.first_from.Given as goal

abbrev pub invariant-loop-low : goal.invariant-loop-low
invariant-loop-low l = Split l.s.axes (column_in l.file 1) l.k l.low l.high

abbrev pub decreases-loop-low : goal.decreases-loop-low
decreases-loop-low l = l.high - l.low
