-- The sources of the entries passed are summed.
use Rattle.tree.specs.Nodes.{own_of}
use Rattle.node_rows.proofs.Marking.{Summing}
use Rattle.near_work.proofs.listed.row_sources.Given as goal

abbrev pub invariant-loop-k : goal.invariant-loop-k
invariant-loop-k l = Summing (own_of l.key l.own) l.row l.k-index l.sources
