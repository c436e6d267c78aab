-- `balancing::lies_inside` meets its contract: the axes are tested from the last to the first.
use mathlib.Core.Path.{◌≡◌}
use Rattle.slices.specs.Every.{every}
use Rattle.balance.specs.Splitting.{inside}
use Rattle.balancing.proofs.Inside.{test}
use Rattle.balancing.proofs.lies_inside.Given as goal

abbrev pub invariant-loop-n : goal.invariant-loop-n
invariant-loop-n l = every l.n (test l.axes l.r l.p) ≡ inside l.axes l.r l.p
