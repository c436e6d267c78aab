-- `grown_right::nodes_right` meets its contract.
use Rattle.grown_right.proofs.Nodes.{Upto}
use Rattle.grown_right.proofs.nodes_right.Given as goal

abbrev pub invariant-loop-node : goal.invariant-loop-node
invariant-loop-node l = Upto l.g l.key l.total l.node
