-- Document 01: lookup of a batch. The lowest failing index decides between 7 and 12; a batch reports the sum of the steps.
use Rattle.std.specs.Prelude.{List, map, ℕ, ◌%◌, leb, eqb, Float, length, Ok}
use Rattle.refusal.specs.declared.Refusal.TheVariants.{Shape, Count, Room, Tree, Point, Unstored}
use Rattle.refusal.specs.Chain.{ask, ◌then◌}
use Rattle.refusal.specs.Left.{left}
use Rattle.slices.specs.Lists.{sum}
use Rattle.space.specs.declared.Box.{Box}
use Rattle.space.specs.Domain.{box_outcome}
use Rattle.space.specs.Cells.{frame_of}
use Rattle.space.specs.Rows.{most_points, rows_of, rows_inside, wall_of, codes16}
use Rattle.tree.specs.Columns.{Columns}
use Rattle.tree.specs.WellFormed.{well_formed}
use Rattle.grouping.specs.Batches.{passing}
use Rattle.tree.specs.Leaves.{held, leaf_key, steps_to}
use Rattle.refusal.specs.Outcome.{Answer, Outcome}

-- how many of the codes stand before the first that no leaf holds
abbrev pub held_before : ℕ → List ℕ → List ℕ → ℕ
held_before d keys codes = passing (held d keys) codes

-- the key of each code's leaf, and the sum of the steps
abbrev pub leaf_keys : ℕ → List ℕ → List ℕ → List ℕ
leaf_keys d keys codes = map (leaf_key d keys) codes

abbrev pub steps_sum : ℕ → List ℕ → List ℕ → ℕ
steps_sum d keys codes = sum (map (steps_to d keys) codes)

-- the codes of the points of a call before the first that is outside
abbrev pub codes_inside : Box → List Float → List ℕ
codes_inside b points = codes16 (rows_inside b points) (frame_of b) points

-- 1 DIMS, 2 BOX, 3 SHAPE, 4 COUNT, 13 TREE, 8 ROOM
unfoldable pub call_outcome : Box → Columns → List Float → ℕ → Outcome
call_outcome b t points room =
    box_outcome b
    then ask (eqb (length points % b.axes) 0) Shape
    then ask (leb (rows_of b points) most_points) Count
    then ask (well_formed b.axes t.keys t.own t.begin t.total) Tree
    then ask (leb (rows_of b points) room) (Room 8)

-- 12 UNSTORED for one before the first that is outside, else 7 POINT with the wall of that one
unfoldable pub points_outcome : Box → List ℕ → List Float → Outcome
points_outcome b keys points =
    ask (eqb (held_before b.axes keys (codes_inside b points)) (rows_inside b points)) (Unstored (held_before b.axes keys (codes_inside b points)))
    then ask (eqb (rows_inside b points) (rows_of b points)) (Point (wall_of b points))

abbrev pub lookup_outcome : Box → Columns → List Float → ℕ → Outcome
lookup_outcome b t points room = call_outcome b t points room then points_outcome b t.keys points

-- the sum of the steps, or the refusal
abbrev pub lookup_answer : Box → Columns → List Float → ℕ → Answer ℕ
lookup_answer b t points room = lookup_outcome b t points room then Ok (steps_sum b.axes t.keys (codes_inside b points))

-- what is left in the lent slice: the key of each point's leaf
abbrev pub lookup_left : Box → Columns → List Float → ℕ → List ℕ
lookup_left b t points room = left (lookup_outcome b t points room) room (leaf_keys b.axes t.keys (codes_inside b points))
