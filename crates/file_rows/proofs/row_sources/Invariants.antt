-- `file_rows::row_sources` meets its contract.
use Rattle.tree_file.specs.Trailer.{column_in}
use Rattle.list_rows.proofs.Rows.{Passing}
use Rattle.file_rows.specs.Parts.{part}
use Rattle.file_rows.proofs.row_sources.Given as goal

abbrev pub invariant-loop-i : goal.invariant-loop-i
invariant-loop-i l = Passing l.s.axes (column_in l.file 1) (column_in l.file 2) (column_in l.file 4) l.far l.row.cell (part (column_in l.file l.code) l.from l.to) l.i l.sum
