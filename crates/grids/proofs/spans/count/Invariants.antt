-- `grids::spans::count` meets its contract: n is the product of the first a lengths.
use Rattle.grids.proofs.Loops.{Multiplying}
use Rattle.grids.proofs.spans.count.Given as goal

abbrev pub invariant-loop-a : goal.invariant-loop-a
invariant-loop-a l = Multiplying l.axes l.s l.n l.a
