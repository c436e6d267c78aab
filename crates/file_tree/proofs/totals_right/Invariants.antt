-- `file_tree::totals_right` meets its contract.
use Rattle.tree.proofs.Waiting.{Totalled}
use Rattle.tree_file.specs.Trailer.{column_in}
use Rattle.file_tree.proofs.totals_right.Given as goal

abbrev pub invariant-loop-i : goal.invariant-loop-i
invariant-loop-i l = Totalled l.s.axes (column_in l.file 1) (column_in l.file 2) (column_in l.file 4) l.waiting l.i
