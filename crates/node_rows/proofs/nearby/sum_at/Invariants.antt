-- The entries of the nodes passed are summed.
use lib.ListN.{get_or, take}
use Rattle.node_rows.proofs.Marking.{Summing}
use Rattle.node_rows.proofs.nearby.sum_at.Given as goal

abbrev pub invariant-loop-at : goal.invariant-loop-at
invariant-loop-at l = Summing (λ p. get_or l.column (get_or l.nodes p 0) 0) (take l.t l.near) l.at-index l.r
