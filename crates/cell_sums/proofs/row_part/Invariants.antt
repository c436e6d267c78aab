-- `cell_sums::row_part` meets its contract.
use Rattle.cell_sums.proofs.Kept.{Adding}
use Rattle.cell_sums.specs.Kept.{Kept}
use Rattle.cell_sums.proofs.row_part.Given as goal

abbrev pub invariant-loop-k : goal.invariant-loop-k
invariant-loop-k l = Kept l.key l.total l.begin l.indices l.readings l.names l.held l.counts × Adding l.key l.total l.begin l.indices l.readings l.row l.sum l.count l.k-index
