-- `balancing::next_after` meets its contract: the climb ends at a cell that has a next sibling, or at the root.
use Rattle.balancing.proofs.Walking.{Climbing}
use Rattle.balancing.proofs.next_after.Given as goal

abbrev pub invariant-loop-level : goal.invariant-loop-level
invariant-loop-level l = Climbing l.axes l.k l.level l.code
