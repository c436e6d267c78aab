-- At each turn the entries passed are added up, and the sum so far is theirs.
use Rattle.refine.proofs.Tallies.{Added}
use Rattle.refine.proofs.sums.add_up.Given as goal

abbrev pub invariant-loop-entry : goal.invariant-loop-entry
invariant-loop-entry l = Added l.initial.column l.column l.run l.entry-index
