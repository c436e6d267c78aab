-- Document 01's example, and the order of two refusals, computed from the definitions.
use mathlib.Core.Path.{◌≡◌, refl}
use mathlib.Core.Bool.{true, false}
use mathlib.Core.List.{[], ◌∷◌}
use lib.IntN.{pos, negsuc}
use lib.Ieee.{nan, inf, fin, le, sub, mul, div, of_int}
use Rattle.slices.specs.Every.{every}
use Rattle.refusal.specs.declared.Refusal.TheVariants.{Key, Point}
use Rattle.morton.specs.Anchors.{spread, encode}
use Rattle.space.specs.declared.Box.{Box}
use Rattle.space.specs.Floats.{size_of, floor}
use Rattle.space.specs.Domain.{centres_known}
use Rattle.space.specs.Cells.{cell16, inside, anchors16}
use Rattle.space.specs.Walls.{first_wall}
use Rattle.points.specs.Calls.{point_to_key}
use Rattle.std.specs.Prelude.{Err, Ok}

-- one axis, centre 4 and radius 4; what stands past the axis is not read
abbrev b4 : Box
b4 = record { centre = fin false 1 (pos 2) ∷ nan ∷ inf true ∷ []; radius = fin false 1 (pos 2); axes = 1 }

-- the keys of the listing's four sources at level 3: 0.5, 1.5, 6.5, 7.5
pub listed :
    (point_to_key b4 (fin false 1 (negsuc 0) ∷ []) 3 ≡ Ok 3)
    × (point_to_key b4 (fin false 3 (negsuc 0) ∷ []) 3 ≡ Ok 32771)
    × (point_to_key b4 (fin false 13 (negsuc 0) ∷ []) 3 ≡ Ok 196611)
    × (point_to_key b4 (fin false 15 (negsuc 0) ∷ []) 3 ≡ Ok 229379)
unfolding cell16 inside anchors16 encode spread centres_known size_of le sub div mul of_int floor every
listed = (refl, refl, refl, refl)

-- a bad level comes before a point that is outside
pub order : (point_to_key b4 (nan ∷ []) 17 ≡ Err Key) × (point_to_key b4 (nan ∷ []) 16 ≡ Err (Point (record { index = 0; axis = 0; reason = 1 })))
unfolding cell16 first_wall inside anchors16 encode spread centres_known size_of le sub div mul of_int floor every
order = (refl, refl)
