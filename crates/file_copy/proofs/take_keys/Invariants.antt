-- `file_copy::take_keys` meets its contract.
use Rattle.tree_file.specs.Trailer.{column_in}
use Rattle.file_copy.proofs.Taking.{Taking}
use Rattle.file_copy.proofs.take_keys.Given as goal

abbrev pub invariant-loop-i : goal.invariant-loop-i
invariant-loop-i l = Taking (column_in l.file l.code) l.initial.out l.out l.i
