-- `grids::spans::half_of` meets its contract: the first a axes have their half.
use Rattle.grids.proofs.Loops.{Taking}
use Rattle.grids.proofs.spans.half_of.Given as goal

abbrev pub invariant-loop-a : goal.invariant-loop-a
invariant-loop-a l = Taking l.axes l.initial.from l.middle l.initial.to l.c l.from l.to l.a
