-- `file_order::once_from` meets its contract.
use Rattle.tree_file.specs.Trailer.{column_in}
use Rattle.arrangement.proofs.Marks.{Marking}
use Rattle.file_order.proofs.once_from.Given as goal

abbrev pub invariant-loop-i : goal.invariant-loop-i
invariant-loop-i l = Marking (column_in l.file 5) l.from l.seen l.i
