-- `row_sums::row_count` meets its contract.
use Rattle.row_sums.proofs.Counting.{Counting}
use Rattle.row_sums.proofs.row_count.Given as goal

abbrev pub invariant-loop-k : goal.invariant-loop-k
invariant-loop-k l = Counting l.key l.count l.row l.sources l.k-index
