-- `grids::spans::parted` meets its contract: the first a axes have their middle.
use Rattle.grids.proofs.Loops.{Middling}
use Rattle.grids.proofs.spans.parted.Given as goal

abbrev pub invariant-loop-a : goal.invariant-loop-a
invariant-loop-a l = Middling l.f l.g l.key l.middle l.a
