-- Cells of document 01's example tree that touch and that do not, computed from the definitions.
use mathlib.Core.Path.{◌≡◌, refl}
use mathlib.Core.Bool.{true, false}
use mathlib.Core.List.{[], ◌∷◌}
use lib.IntN.{pos}
use lib.Ieee.{nan, inf, fin, le, add, sub, mul, div, of_int}
use Rattle.slices.specs.Every.{every}
use Rattle.morton.specs.Anchors.{anchor}
use Rattle.space.specs.declared.Box.{Box}
use Rattle.space.specs.Floats.{size_of}
use Rattle.space.specs.Domain.{centres_known}
use Rattle.centres.specs.Centres.{tolerance, centre_on, near_at, are_adjacent}
use Rattle.std.specs.Prelude.{Ok}

-- one axis, centre 4 and radius 4; what stands past the axis is not read
abbrev b4 : Box
b4 = record { centre = fin false 1 (pos 2) ∷ nan ∷ inf true ∷ []; radius = fin false 1 (pos 2); axes = 1 }

-- each pair in both orders
pub neighbours : (are_adjacent b4 3 32771 ≡ Ok true) × (are_adjacent b4 32771 3 ≡ Ok true) × (are_adjacent b4 3 196611 ≡ Ok false) × (are_adjacent b4 196611 3 ≡ Ok false)
unfolding every near_at centre_on anchor centres_known size_of le tolerance add sub div mul of_int
neighbours = (refl, refl, refl, refl)
