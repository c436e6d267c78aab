-- `grids::row_point` meets its contract: the axes from a on are done.
use Rattle.grids.proofs.Loops.{Rowing}
use Rattle.grids.proofs.row_point.Given as goal

abbrev pub invariant-loop-a : goal.invariant-loop-a
invariant-loop-a l = Rowing l.axes l.g l.row l.point l.rest l.a
