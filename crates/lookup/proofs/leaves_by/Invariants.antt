-- `lookup::leaves_by` meets its contract.
use Rattle.lookup.proofs.Batch.{Looking}
use Rattle.lookup.proofs.leaves_by.Given as goal

abbrev pub invariant-loop-row : goal.invariant-loop-row
invariant-loop-row l = Looking l.axes l.key l.n l.initial.codes l.row l.steps l.codes
