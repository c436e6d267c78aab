-- The steps of one source more.
use Rattle.std.specs.Prelude.{◌≡◌, true, List, ◌%◌, ◌<◌, Float, length}
use Rattle.space.specs.declared.Box.{Box}
use Rattle.space.specs.Domain.{box_outcome}
use Rattle.space.specs.Cells.{frame_of, inside}
use Rattle.space.specs.Rows.{most_points, rows_of, rows_inside}
use Rattle.refusal.specs.Outcome.{accepted}

-- a known box, whole rows of few sources that are all inside, and a point that is
pub record Sound (b : Box) (sources point : List Float) : Type 0 where
  pub box : box_outcome b ≡ accepted
  pub whole : length sources % b.axes ≡ 0
  pub few : rows_of b sources < most_points
  pub insides : rows_inside b sources ≡ rows_of b sources
  pub long : length point ≡ 3
  pub point_inside : inside (frame_of b) point ≡ true
