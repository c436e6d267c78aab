-- `file_sections::find_entries` meets its contract.
use Rattle.file_sections.proofs.Judged.{Judging}
use Rattle.file_sections.proofs.find_entries.Given as goal

abbrev pub invariant-loop-i : goal.invariant-loop-i
invariant-loop-i l = Judging l.file l.n l.at l.i
