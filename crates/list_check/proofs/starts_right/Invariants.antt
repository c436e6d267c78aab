-- The first i starts do not fall.
use Rattle.list_check.proofs.Starts.{Rising}
use Rattle.list_check.proofs.starts_right.Given as goal

abbrev pub invariant-loop-i : goal.invariant-loop-i
invariant-loop-i l = Rising l.key l.starts l.i
