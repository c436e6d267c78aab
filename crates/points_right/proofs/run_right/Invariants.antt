-- `points_right::run_right` meets its contract.
use Rattle.points_right.specs.Points.{point_in}
use Rattle.points_right.proofs.Runs.{Upto}
use Rattle.points_right.proofs.run_right.Given as goal

abbrev pub invariant-loop-p : goal.invariant-loop-p
invariant-loop-p l = Upto l.n (point_in l.f l.points) l.order l.k l.from l.low l.p
