-- `extents::largest_reach` meets its contract.
use mathlib.Core.Path.{◌≡◌}
use Rattle.extents.specs.Extents.{largest}
use Rattle.extents.proofs.largest_reach.Given as goal

abbrev pub invariant-loop-a : goal.invariant-loop-a
invariant-loop-a l = l.radius ≡ largest l.a l.extents l.d
