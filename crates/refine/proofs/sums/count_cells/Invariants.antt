-- At each turn the counts and the codes ahead give each cell's count.
use lib.ListN.{length}
use Rattle.refine.proofs.Tallies.{Tallied}
use Rattle.refine.proofs.sums.count_cells.Given as goal

abbrev pub invariant-loop-code : goal.invariant-loop-code
invariant-loop-code l = Tallied l.shift l.codes (length l.initial.counts) l.counts l.code-index
