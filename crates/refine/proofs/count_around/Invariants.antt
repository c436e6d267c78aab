-- At each turn the cell and the neighbours passed are counted, whichever the sources are.
use Rattle.refine.proofs.BySums.{CountingBySums}
use Rattle.refine.proofs.count_around.Given as goal

abbrev pub invariant-loop-i : goal.invariant-loop-i
invariant-loop-i l = CountingBySums l.axes l.depth l.sums l.key l.others l.len l.sum l.squares l.i
