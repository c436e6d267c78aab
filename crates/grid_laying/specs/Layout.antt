-- The sources of a build on a grid as they stand in the work.
use Rattle.std.specs.Prelude.{◌≡◌, true, List, [], ℕ, ◌+◌, ◌≤◌, Float, length}
use Rattle.space.specs.declared.Box.{Box}
use Rattle.space.specs.Domain.{box_outcome}
use Rattle.space.specs.Rows.{rows_of}
use Rattle.laying.specs.Outcomes.{inside_outcome}
use Rattle.laying.specs.Layout.{CodesLaid}
use Rattle.grids.specs.declared.Grid.{Grid}
use Rattle.grids.specs.Grids.{listed, grid_known, few_points}
use Rattle.refusal.specs.Outcome.{accepted}

-- a known box, and a known grid of few points
pub record Sited (b : Box) (g : Grid) : Type 0 where
  pub box : box_outcome b ≡ accepted
  pub known : grid_known b.axes g ≡ true
  pub few : few_points b.axes g ≡ true

-- all checks have passed, and the codes of the sources stand behind as many places
pub record GridLaid (b : Box) (sources : List Float) (g : Grid) (order : ℕ) (work : List ℕ) : Type 0 where
  pub sited : Sited b g
  pub few : rows_of b sources ≤ 1048576
  pub fits : order ≤ 64
  pub inside : inside_outcome b [] (listed b.axes g) ≡ accepted
  pub room : rows_of b sources + rows_of b sources ≤ length work
  pub laid : CodesLaid b sources [] work
