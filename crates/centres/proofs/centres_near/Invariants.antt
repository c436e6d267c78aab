-- `centres::centres_near` meets its contract: on the axes seen the centres are near.
use mathlib.Core.Path.{◌≡◌}
use mathlib.Core.Bool.{true}
use Rattle.centres.specs.Centres.{near_on}
use Rattle.centres.proofs.centres_near.Given as goal

abbrev pub invariant-loop-a : goal.invariant-loop-a
invariant-loop-a l = near_on l.a l.b l.first l.second ≡ true
