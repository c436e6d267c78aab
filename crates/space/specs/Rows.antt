-- Points in a flat slice, one row of `axes` numbers after the other.
use Rattle.std.specs.Prelude.{Bool, true, false, cond, List, [], ◌∷◌, ◌++◌, ℕ, zero, suc, ◌*◌, ◌/◌, ltb, Float, length, drop, Err}
use Rattle.refusal.specs.declared.Wall.{Wall}
use Rattle.space.specs.declared.Box.{Box}
use Rattle.space.specs.declared.Frame.{Frame}
use Rattle.space.specs.Cells.{frame_of, inside, code16}
use Rattle.space.specs.Walls.{first_wall}
use Rattle.space.specs.Inside.{Inside, all_inside}

-- of n rows, how many stand before the first that is outside
unfoldable pub inside_rows : ℕ → Frame → List Float → ℕ
inside_rows zero f xs = 0
inside_rows (suc n) f xs = cond (inside f xs) (suc (inside_rows n f (drop f.axes xs))) 0

-- the level-16 codes of n rows
unfoldable pub codes16 : ℕ → Frame → List Float → List ℕ
codes16 zero f xs = []
codes16 (suc n) f xs = code16 f xs ∷ codes16 n f (drop f.axes xs)

abbrev pub or_inside : Bool → Inside → Inside
or_inside true r = r
or_inside false r = all_inside

-- the wall of row i
abbrev pub row_wall : Frame → List Float → ℕ → Wall
row_wall f xs i = first_wall i f (drop (i * f.axes) xs)

-- the wall of the first of n rows that is outside, if one is
abbrev pub first_outside : ℕ → Frame → List Float → Inside
first_outside n f xs = or_inside (ltb (inside_rows n f xs) n) (Err (row_wall f xs (inside_rows n f xs)))

-- a slice's end content: the codes of the rows before the first that is outside, and the rest as it was
abbrev pub coded : ℕ → Frame → List Float → List ℕ → List ℕ
coded n f xs old = codes16 (inside_rows n f xs) f xs ++ drop (inside_rows n f xs) old

-- ---- the points of a call
abbrev pub most_points : ℕ
most_points = 1048576

-- how many there are
abbrev pub rows_of : Box → List Float → ℕ
rows_of b points = length points / b.axes

-- how many stand before the first that is outside
abbrev pub rows_inside : Box → List Float → ℕ
rows_inside b points = inside_rows (rows_of b points) (frame_of b) points

-- the wall of that one
abbrev pub wall_of : Box → List Float → Wall
wall_of b points = row_wall (frame_of b) points (rows_inside b points)
