-- The first i entries are copied.
use Rattle.near_work.proofs.Counts.{Copying}
use Rattle.near_work.proofs.copy_own.Given as goal

abbrev pub invariant-loop-i : goal.invariant-loop-i
invariant-loop-i l = Copying l.own l.initial.counts l.counts l.i
