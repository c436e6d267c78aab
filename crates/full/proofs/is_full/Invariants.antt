-- `full::is_full` meets its contract.
use Rattle.full.specs.Full.{has_children}
use Rattle.full.proofs.Counting.{Passed}
use Rattle.full.proofs.is_full.Given as goal

abbrev pub invariant-loop-node : goal.invariant-loop-node
invariant-loop-node l = Passed (has_children l.axes l.key) l.key l.split l.node
