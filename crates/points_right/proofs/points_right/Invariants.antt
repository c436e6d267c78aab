-- `points_right::points_right` meets its contract.
use Rattle.points_right.specs.Points.{point_in}
use Rattle.points_right.proofs.Runs.{Before}
use Rattle.points_right.proofs.points_right.Given as goal

abbrev pub invariant-loop-node : goal.invariant-loop-node
invariant-loop-node l = Before l.n (point_in l.f l.points) l.key l.own l.begin l.order l.node
