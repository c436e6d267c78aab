-- `target_counts::code_rows` meets its contract.
use Rattle.target_counts.proofs.Targets.{Coding}
use Rattle.target_counts.proofs.code_rows.Given as goal

abbrev pub invariant-loop-n : goal.invariant-loop-n
invariant-loop-n l = Coding l.f l.targets l.from l.far l.codes l.n l.at
