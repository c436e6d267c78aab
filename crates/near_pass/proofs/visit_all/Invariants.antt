-- What the nodes before this one add is summed, and the stack is ready for it.
use Rattle.node_rows.specs.Stack.{Ready}
use Rattle.node_rows.proofs.Marking.{Summing}
use Rattle.near_pass.specs.Sums.{work_of, SumsFor}
use Rattle.near_pass.proofs.visit_all.Given as goal

abbrev pub invariant-loop-node : goal.invariant-loop-node
invariant-loop-node l = Summing (work_of l.axes l.key l.own l.counts) l.key l.node l.work × Ready l.axes l.key l.own l.node l.stack l.held × SumsFor l.axes l.key l.own l.node l.sums
