-- `balancing::must_split` meets its contract: the neighbours that are still to come tell what all tell.
use Rattle.balancing.proofs.Forced.{Looked}
use Rattle.balancing.proofs.must_split.Given as goal

abbrev pub invariant-loop-i : goal.invariant-loop-i
invariant-loop-i l = Looked l.axes l.key l.r l.others l.len l.i
