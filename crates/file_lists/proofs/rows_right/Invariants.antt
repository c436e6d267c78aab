-- `file_lists::rows_right` meets its contract.
use Rattle.tree_file.specs.Trailer.{column_in}
use Rattle.list_check.proofs.Path.{Judging}
use Rattle.file_lists.proofs.rows_right.Given as goal

abbrev pub invariant-loop-node : goal.invariant-loop-node
invariant-loop-node l = Judging l.s.axes (column_in l.file 1) (column_in l.file 2) (column_in l.file 4) (column_in l.file 6) (column_in l.file 7) (column_in l.file 8) (column_in l.file 9) l.far l.node
