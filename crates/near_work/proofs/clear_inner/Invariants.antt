-- The entries of the nodes with children before i are cleared.
use Rattle.near_work.proofs.Counts.{Clearing}
use Rattle.near_work.proofs.clear_inner.Given as goal

abbrev pub invariant-loop-i : goal.invariant-loop-i
invariant-loop-i l = Clearing l.key l.initial.counts l.counts l.i
