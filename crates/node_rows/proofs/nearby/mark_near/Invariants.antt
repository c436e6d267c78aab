-- The first j masks are marked.
use Rattle.node_rows.specs.Near.{Marked}
use Rattle.node_rows.proofs.nearby.mark_near.Given as goal

abbrev pub invariant-loop-j : goal.invariant-loop-j
invariant-loop-j l = Marked l.masks l.s l.near l.t l.j
