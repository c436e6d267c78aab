-- `grids::last_out` meets its contract: the axes from a on do not end outside.
use Rattle.grids.proofs.Leaving.{Seeking}
use Rattle.grids.proofs.last_out.Given as goal

abbrev pub invariant-loop-a : goal.invariant-loop-a
invariant-loop-a l = Seeking l.f l.g l.a l.stride
