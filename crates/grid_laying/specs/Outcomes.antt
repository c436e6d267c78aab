-- Document 02, order 1: the refusals of a build on a grid that its points decide, in the order 1, 2, 16, 3, 4, 5, 6, 7, and then 8 for the work.
use Rattle.std.specs.Prelude.{List, [], ℕ, Float}
use Rattle.refusal.specs.declared.Refusal.TheVariants.{Grid as GridRefused}
use Rattle.refusal.specs.Chain.{ask, ◌then◌}
use Rattle.space.specs.declared.Box.{Box}
use Rattle.space.specs.Domain.{box_outcome}
use Rattle.laying.specs.Outcomes.{asked_outcome, inside_outcome, work_outcome}
use Rattle.grids.specs.declared.Grid.{Grid}
use Rattle.grids.specs.Grids.{listed, grid_known}
use Rattle.refusal.specs.Outcome.{Outcome}

-- 1 DIMS, 2 BOX, and 16 GRID: a shape of 0, an origin or spacing that is not finite, a spacing that is not above 0
abbrev pub grid_outcome : Box → Grid → Outcome
grid_outcome b g = box_outcome b then ask (grid_known b.axes g) GridRefused

-- then those of a build on the listed points, of which none has to stand in the work
abbrev pub grid_checks : Box → List Float → Grid → ℕ → ℕ → Outcome
grid_checks b sources g order work =
    grid_outcome b g
    then asked_outcome b sources (listed b.axes g) order
    then inside_outcome b sources (listed b.axes g)
    then work_outcome b sources [] work
