-- `grids::grid_known` meets its contract: the axes seen are known.
use mathlib.Core.Path.{◌≡◌}
use mathlib.Core.Bool.{true}
use Rattle.grids.specs.Grids.{grid_known}
use Rattle.grids.proofs.grid_known.Given as goal

abbrev pub invariant-loop-a : goal.invariant-loop-a
invariant-loop-a l = grid_known l.a l.g ≡ true
