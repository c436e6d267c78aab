-- What the nodes before this one add is summed.
use Rattle.near_pass.specs.Sums.{work_of}
use Rattle.node_rows.proofs.Marking.{Summing}
use Rattle.near_work.proofs.listed.near_work.Given as goal

abbrev pub invariant-loop-node : goal.invariant-loop-node
invariant-loop-node l = Summing (work_of l.axes l.key l.own l.counts) l.key l.node l.work
