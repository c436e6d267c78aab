-- `file_sections::locate` meets its contract.
use Rattle.file_sections.proofs.Located.{Locating}
use Rattle.file_sections.proofs.locate.Given as goal

abbrev pub invariant-loop-c : goal.invariant-loop-c
invariant-loop-c l = Locating l.file l.starts l.counts l.c
