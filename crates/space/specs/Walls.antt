-- Order 5: which wall an outside point is behind. The first axis on which it is at no cell decides.
use Rattle.std.specs.Prelude.{Bool, true, false, List, ℕ, Float}
use Rattle.refusal.specs.declared.Wall.{Wall}
use Rattle.space.specs.declared.Frame.{Frame}
use Rattle.space.specs.declared.Place.{Place}
use Rattle.space.specs.declared.Place.TheVariants.{At, NotFinite, Below, Above}
use Rattle.space.specs.Cells.{is_at, cell16}

-- the reason's number; 0 at a cell
abbrev pub reason_of : Place → ℕ
reason_of (At k) = 0
reason_of NotFinite = 1
reason_of Below = 2
reason_of Above = 3

abbrev pub wall_on : ℕ → Frame → List Float → ℕ → Wall
wall_on index f xs a = record { index = index; axis = a; reason = reason_of (cell16 f xs a) }

abbrev pub or_next : Bool → Wall → Wall → Wall
or_next true w next = next
or_next false w next = w

-- axis by axis
unfoldable pub first_wall : ℕ → Frame → List Float → Wall
first_wall index f xs = or_next (is_at (cell16 f xs 0)) (wall_on index f xs 0) (or_next (is_at (cell16 f xs 1)) (wall_on index f xs 1) (wall_on index f xs 2))
