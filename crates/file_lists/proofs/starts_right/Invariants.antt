-- `file_lists::starts_right` meets its contract.
use Rattle.tree_file.specs.Trailer.{column_in}
use Rattle.list_check.proofs.Starts.{Rising}
use Rattle.file_lists.proofs.starts_right.Given as goal

abbrev pub invariant-loop-i : goal.invariant-loop-i
invariant-loop-i l = Rising (column_in l.file 1) (column_in l.file l.code) l.i
