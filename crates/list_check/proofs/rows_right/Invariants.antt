-- The rows of the nodes before this one are right, and what is met rides on the path to it.
use Rattle.list_check.proofs.Path.{Judging}
use Rattle.list_rows.specs.Entries.{Table}
use Rattle.list_check.proofs.rows_right.Given as goal

abbrev pub invariant-loop-node : goal.invariant-loop-node
invariant-loop-node l = Table l.axes l.key l.nodes l.spots × Judging l.axes l.key l.own l.total l.u_starts l.u_keys l.v_starts l.v_keys l.far l.node
