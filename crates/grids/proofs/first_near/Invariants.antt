-- `grids::first_near` meets its contract: the answer stays between lo and lo + n.
use Rattle.grids.proofs.Halving.{Between}
use Rattle.grids.proofs.first_near.Given as goal

abbrev pub invariant-loop-n : goal.invariant-loop-n
invariant-loop-n l = Between l.f l.g l.a l.x l.lo l.n

abbrev pub decreases-loop-n : goal.decreases-loop-n
decreases-loop-n l = l.n
