-- `node_counts::keep_counts` meets its contract.
use Rattle.node_counts.proofs.Counts.{Settled}
use Rattle.node_counts.proofs.keep_counts.Given as goal

abbrev pub invariant-loop-q : goal.invariant-loop-q
invariant-loop-q l = Settled l.axes l.key l.begin l.initial.own l.entries l.own l.q
