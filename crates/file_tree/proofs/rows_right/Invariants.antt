-- `file_tree::rows_right` meets its contract.
use Rattle.tree.proofs.Pass.{Passed}
use Rattle.tree_file.specs.Trailer.{column_in}
use Rattle.file_tree.proofs.rows_right.Given as goal

abbrev pub invariant-loop-i : goal.invariant-loop-i
invariant-loop-i l = Passed l.s.axes (column_in l.file 1) (column_in l.file 2) (column_in l.file 3) l.run l.i
