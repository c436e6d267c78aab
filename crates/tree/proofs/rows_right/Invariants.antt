-- `tree::rows_right` meets its contract.
use Rattle.tree.proofs.Pass.{Passed}
use Rattle.tree.proofs.rows_right.Given as goal

abbrev pub invariant-loop-i : goal.invariant-loop-i
invariant-loop-i l = Passed l.axes l.key l.own l.begin l.run l.i
