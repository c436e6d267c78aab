-- Document 01, "The box and a point's cell": the quotient that IEEE 754 gives, and the cell that its floor names. Order 5: the wall where it names none.
use Rattle.std.specs.Prelude.{◌≡◌, Bool, true, false, ◌&&◌, List, [], ◌∷◌, map, ℕ, ◌-◌, ◌/◌, ◌^◌, ◌<◌, pos, negsuc, ltb, Float, get_or, None, Option, Some}
use Rattle.std.specs.Float.{nan, fin, binary64}
use Rattle.std.specs.Float.Ieee.{sub, mul, div, of_int, lt}
use Rattle.morton.specs.Anchors.{encode}
use Rattle.space.specs.declared.Box.{Box}
use Rattle.space.specs.declared.Frame.{Frame}
use Rattle.space.specs.declared.Place.{Place}
use Rattle.space.specs.declared.Place.TheVariants.{At, NotFinite, Below, Above}
use Rattle.space.specs.Floats.{nought, is_finite, Floor, no_floor, whole, floor}

-- an entry past the axes is 0
abbrev pub on_axis : Bool → Float → Float
on_axis true x = x
on_axis false x = nought

-- centre minus radius
abbrev pub displacement : Box → ℕ → Float
displacement b a = on_axis (ltb a b.axes) (sub binary64 (get_or b.centre a nan) b.radius)

-- 2 * radius / 2 ^ level
abbrev pub side : Float → ℕ → Float
side radius level = div binary64 (mul binary64 (fin false 1 (pos 1)) radius) (of_int binary64 (pos (2 ^ level)))

-- (coordinate - displacement) / side: one subtraction and one division
abbrev pub quotient : Float → Float → Float → Float
quotient coordinate displacement side = div binary64 (sub binary64 coordinate displacement) side

abbrev pub pick : Bool → Place → Place → Place
pick true p q = p
pick false p q = q

-- why a coordinate is at no cell, asked in this order: it is not finite itself; its quotient is below 0; else it is above the box
abbrev pub wall_by : Float → Float → Place
wall_by x q = pick (is_finite x) (pick (lt q nought) Below Above) NotFinite

abbrev pub kept : {A : Type 0} → Bool → A → Option A
kept true x = Some x
kept false x = None

-- of n cells in a row, numbered from 0, the one that a floor names; any other floor is outside
abbrev pub cell_number : ℕ → Floor → Option ℕ
cell_number n no_floor = None
cell_number n (whole (negsuc k)) = None
cell_number n (whole (pos k)) = kept (ltb k n) k

-- the same with the wall
abbrev pub cell_in : ℕ → Floor → Place → Place
cell_in n no_floor wall = wall
cell_in n (whole (negsuc k)) wall = wall
cell_in n (whole (pos k)) wall = pick (ltb k n) (At k) wall

-- the cell of a coordinate, of n on its axis
abbrev pub cell_of : ℕ → Float → Float → Float → Place
cell_of n x displacement side = cell_in n (floor (quotient x displacement side)) (wall_by x (quotient x displacement side))

-- a box's own numbers at level 16, which all its points share
abbrev pub frame_of : Box → Frame
frame_of b = record { displacement = displacement b 0 ∷ displacement b 1 ∷ displacement b 2 ∷ []; side = side b.radius 16; axes = b.axes }

-- A point is a list of numbers, one for each axis, and more are not read. Its level-16 cell on axis a; past the axes the anchor is 0.
unfoldable pub cell16 : Frame → List Float → ℕ → Place
cell16 f xs a = pick (ltb a f.axes) (cell_of 65536 (get_or xs a nan) (get_or f.displacement a nan) f.side) (At 0)

abbrev pub is_at : Place → Bool
is_at (At k) = true
is_at NotFinite = false
is_at Below = false
is_at Above = false

abbrev pub place_number : Place → ℕ
place_number (At k) = k
place_number NotFinite = 0
place_number Below = 0
place_number Above = 0

abbrev pub number_in : Place → Option ℕ
number_in (At k) = Some k
number_in NotFinite = None
number_in Below = None
number_in Above = None

-- on all axes the level-16 anchor is one of 0..65535
unfoldable pub inside : Frame → List Float → Bool
unfolding cell16
inside f xs = is_at (cell16 f xs 0) && (is_at (cell16 f xs 1) && is_at (cell16 f xs 2))

unfoldable pub anchors16 : Frame → List Float → List ℕ
unfolding cell16
anchors16 f xs = place_number (cell16 f xs 0) ∷ place_number (cell16 f xs 1) ∷ place_number (cell16 f xs 2) ∷ []

-- the level-16 anchors divided by 2 ^ (16 - level), rounded down
abbrev pub point_anchors : Frame → List Float → ℕ → List ℕ
point_anchors f xs level = map (λ k. k / 2 ^ (16 - level)) (anchors16 f xs)

-- the code of a point's level-16 cell
unfoldable pub code16 : Frame → List Float → ℕ
unfolding anchors16 encode
code16 f xs = encode f.axes f.axes 16 (anchors16 f xs)

abbrev pub point_code : Frame → List Float → Option ℕ
point_code f xs = kept (inside f xs) (code16 f xs)

-- ---- the level's own quotient
abbrev pub level_cell : Box → ℕ → ℕ → Float → Place
level_cell b level a x = cell_of (2 ^ level) x (displacement b a) (side b.radius level)

-- cells are those that the level's own quotients name, on each of the axes
abbrev pub Nests : Box → List Float → ℕ → List ℕ → Type 0
Nests b xs level cells = (a : ℕ) → a < b.axes → level_cell b level a (get_or xs a nan) ≡ At (get_or cells a 0)

-- ---- one point
abbrev pub located_of : Frame → List Float → Option (List ℕ)
located_of f xs = kept (inside f xs) (anchors16 f xs)
