-- `target_counts::count_codes` meets its contract.
use Rattle.target_counts.proofs.Targets.{Adding}
use Rattle.target_counts.proofs.count_codes.Given as goal

abbrev pub invariant-loop-row : goal.invariant-loop-row
invariant-loop-row l = Adding l.axes l.key l.codes l.n l.initial.counts l.row l.counts
