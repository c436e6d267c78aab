-- `space::centres_known` meets its contract: the axes seen are known.
use mathlib.Core.Path.{◌≡◌}
use mathlib.Core.Bool.{true}
use Rattle.space.specs.Domain.{centres_known}
use Rattle.space.proofs.centres_known.Given as goal

abbrev pub invariant-loop-a : goal.invariant-loop-a
invariant-loop-a l = centres_known l.a l.b.centre ≡ true
