-- `file_layout::put_entries` meets its contract.
use Rattle.file_layout.proofs.Putting.{Entering}
use Rattle.file_layout.proofs.put_entries.Given as goal

abbrev pub invariant-loop-i : goal.invariant-loop-i
invariant-loop-i l = Entering l.lengths l.at l.initial.file l.file l.back l.i
