-- `tree::totals_right` meets its contract.
use Rattle.tree.proofs.Waiting.{Totalled}
use Rattle.tree.proofs.totals_right.Given as goal

abbrev pub invariant-loop-i : goal.invariant-loop-i
invariant-loop-i l = Totalled l.axes l.key l.own l.total l.waiting l.i
