-- `file_order::all_below` meets its contract.
use Rattle.tree_file.specs.Trailer.{column_in}
use Rattle.arrangement.proofs.Judged.{Below}
use Rattle.file_order.proofs.all_below.Given as goal

abbrev pub invariant-loop-i : goal.invariant-loop-i
invariant-loop-i l = Below (column_in l.file 5) l.n l.i
