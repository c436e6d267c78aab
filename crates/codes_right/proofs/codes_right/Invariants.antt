-- `codes_right::codes_right` meets its contract.
use lib.ListN.{length}
use Rattle.points_right.specs.Points.{code_in}
use Rattle.points_right.proofs.Runs.{Before}
use Rattle.codes_right.proofs.codes_right.Given as goal

abbrev pub invariant-loop-node : goal.invariant-loop-node
invariant-loop-node l = Before (length l.codes) (code_in l.axes l.codes) l.key l.own l.begin l.order l.node
