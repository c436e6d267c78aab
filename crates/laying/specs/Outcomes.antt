-- Document 01: the refusals of a build that its points decide, in the order 1, 2, 3, 4, 5, 6, 7, and then 8 for the work;
-- sources before targets in 3 and 4.
use Rattle.std.specs.Prelude.{Bool, ◌&&◌, ◌||◌, List, ℕ, ◌+◌, ◌%◌, leb, eqb, Float, length}
use Rattle.refusal.specs.declared.Refusal.TheVariants.{Shape, Count, Order, Source, Point, Room}
use Rattle.refusal.specs.Chain.{ask, ◌then◌}
use Rattle.space.specs.declared.Box.{Box}
use Rattle.space.specs.Domain.{box_outcome}
use Rattle.space.specs.Rows.{most_points, rows_of, rows_inside, wall_of}
use Rattle.refusal.specs.Outcome.{Outcome}

-- from 1 to 64, where targets are used
abbrev pub order_fits : ℕ → List Float → Bool
order_fits order targets = eqb (length targets) 0 || (leb 1 order && leb order 64)

-- 1 DIMS, 2 BOX, 3 SHAPE, 4 COUNT, 5 ORDER
unfoldable pub asked_outcome : Box → List Float → List Float → ℕ → Outcome
asked_outcome b sources targets order =
    box_outcome b
    then ask (eqb (length sources % b.axes) 0) Shape
    then ask (eqb (length targets % b.axes) 0) Shape
    then ask (leb (rows_of b sources) most_points) Count
    then ask (leb (rows_of b targets) most_points) Count
    then ask (order_fits order targets) Order

-- 6 SOURCE, 7 POINT: the wall of the lowest row that is outside
unfoldable pub inside_outcome : Box → List Float → List Float → Outcome
inside_outcome b sources targets =
    ask (eqb (rows_inside b sources) (rows_of b sources)) (Source (wall_of b sources))
    then ask (eqb (rows_inside b targets) (rows_of b targets)) (Point (wall_of b targets))

-- 8 ROOM: 1 the work, two u64 a source and one a used target
abbrev pub work_need : Box → List Float → List Float → ℕ
work_need b sources targets = rows_of b sources + rows_of b sources + rows_of b targets

unfoldable pub work_outcome : Box → List Float → List Float → ℕ → Outcome
work_outcome b sources targets work = ask (leb (work_need b sources targets) work) (Room 1)
