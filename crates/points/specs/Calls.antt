-- Document 01: what the calls on one point answer, and when they are refused.
use Rattle.std.specs.Prelude.{List, ℕ, Float, Ok}
use Rattle.refusal.specs.declared.Refusal.TheVariants.{Point}
use Rattle.morton.specs.Anchors.{key_at}
use Rattle.space.specs.declared.Box.{Box}
use Rattle.refusal.specs.Chain.{ask, ◌then◌}
use Rattle.space.specs.Domain.{level_outcome}
use Rattle.space.specs.Cells.{frame_of, inside, point_anchors}
use Rattle.space.specs.Walls.{first_wall}
use Rattle.refusal.specs.Outcome.{Answer, Outcome}

-- 1 DIMS, 2 BOX, 9 KEY, and then 7 POINT with the wall of the point, which has index 0
abbrev pub point_outcome : Box → List Float → ℕ → Outcome
point_outcome b xs level = level_outcome b level then ask (inside (frame_of b) xs) (Point (first_wall 0 (frame_of b) xs))

-- the anchors of a point at a level
abbrev pub point_to_anchor : Box → List Float → ℕ → Answer (List ℕ)
point_to_anchor b xs level = point_outcome b xs level then Ok (point_anchors (frame_of b) xs level)

-- the key of the cell with these anchors
abbrev pub point_to_key : Box → List Float → ℕ → Answer ℕ
point_to_key b xs level = point_outcome b xs level then Ok (key_at b.axes level (point_anchors (frame_of b) xs level))
