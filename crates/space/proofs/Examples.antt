-- Document 01's examples, and some more at the walls, computed from the definitions.
use mathlib.Core.Path.{◌≡◌, refl}
use mathlib.Core.Bool.{true, false}
use mathlib.Core.List.{[], ◌∷◌}
use lib.IntN.{pos, negsuc}
use lib.Ieee.{Float, nan, inf, fin, binary64, of_bits, lt, le, sub, mul, div, of_int}
use Rattle.slices.specs.Every.{every}
use Rattle.refusal.specs.declared.Refusal.TheVariants.{Dims, Box as OutOfDomain}
use Rattle.space.specs.declared.Box.{Box}
use Rattle.space.specs.declared.Place.{Place}
use Rattle.space.specs.declared.Place.TheVariants.{At, NotFinite, Below, Above}
use Rattle.space.specs.Floats.{size_of, whole, floor}
use Rattle.space.specs.Domain.{centres_known, box_outcome}
use Rattle.space.specs.Cells.{quotient, side, displacement, frame_of, cell16}
use Rattle.refusal.specs.Outcome.{accepted}
use Rattle.std.specs.Prelude.{Err}

-- one axis; what stands past it is not read
abbrev one : Float → Float → Box
one centre radius = record { centre = centre ∷ nan ∷ inf true ∷ []; radius = radius; axes = 1 }

abbrev cell : Box → Float → Place
cell b x = cell16 (frame_of b) (x ∷ nan ∷ []) 0

abbrev four : Float
four = fin false 1 (pos 2)

-- ---- box 4, radius 4
abbrev b4 : Box
b4 = one four four

pub zeros : (cell b4 (of_bits binary64 0) ≡ At 0) × (cell b4 (of_bits binary64 0x8000_0000_0000_0000) ≡ At 0)
unfolding of_bits cell16 sub div mul of_int floor
zeros = (refl, refl)

-- the negative subnormal nearest zero; NaN and the infinities
pub out-of-b4 :
    (cell b4 (of_bits binary64 0x8000_0000_0000_0001) ≡ Below)
    × (cell b4 nan ≡ NotFinite)
    × (cell b4 (inf true) ≡ NotFinite)
    × (cell b4 (inf false) ≡ NotFinite)
unfolding of_bits cell16 lt sub div mul of_int floor
out-of-b4 = (refl, refl, refl, refl)

-- 8.0 gives 65536, which is outside
pub eight : (floor (quotient (fin false 1 (pos 3)) (displacement b4 0) (side four 16)) ≡ whole (pos 65536)) × (cell b4 (fin false 1 (pos 3)) ≡ Above)
unfolding cell16 lt sub div mul of_int floor
eight = (refl, refl)

-- ---- the lower wall: a negative quotient may round to -0, which is inside
abbrev wide : Box
wide = one (fin false 1 (pos 16)) (fin false 1 (pos 16))

-- -5e-324 and -1e-323
pub lower : (cell wide (of_bits binary64 0x8000_0000_0000_0001) ≡ At 0) × (cell wide (of_bits binary64 0x8000_0000_0000_0002) ≡ Below)
unfolding of_bits cell16 lt sub div mul of_int floor
lower = (refl, refl)

-- 16 and 17 units below 0, in the widest box
abbrev widest : Box
widest = one (fin false 1 (pos 20)) (fin false 1 (pos 20))

pub lowest : (cell widest (of_bits binary64 0x8000_0000_0000_0010) ≡ At 0) × (cell widest (of_bits binary64 0x8000_0000_0000_0011) ≡ Below)
unfolding of_bits cell16 lt sub div mul of_int floor
lowest = (refl, refl)

-- ---- the upper wall: 3.9999999999999996 is outside, since the subtraction rounds to 8; one step lower is inside
pub upper :
    (cell (one (fin false 0 (pos 0)) four) (of_bits binary64 0x400f_ffff_ffff_ffff) ≡ Above)
    × (cell (one (fin false 0 (pos 0)) four) (of_bits binary64 0x400f_ffff_ffff_fffe) ≡ At 65535)
unfolding of_bits cell16 lt sub div mul of_int floor
upper = (refl, refl)

-- finite coordinates, the largest of each sign, with infinite quotients
pub infinite :
    (cell (one (fin false 0 (pos 0)) (fin false 1 (negsuc 1))) (of_bits binary64 0x7fef_ffff_ffff_ffff) ≡ Above)
    × (cell (one (fin false 0 (pos 0)) (fin false 1 (negsuc 1))) (of_bits binary64 0xffef_ffff_ffff_ffff) ≡ Below)
unfolding of_bits cell16 lt sub div mul of_int floor
infinite = (refl, refl)

-- ---- the domain, at its limits and past them
pub limits :
    (box_outcome (one (fin false 1 (pos 24)) (fin false 1 (negsuc 1))) ≡ accepted)
    × (box_outcome (one (fin true 1 (pos 24)) (fin false 1 (pos 20))) ≡ accepted)
    × (box_outcome (one (of_bits binary64 0x4170_0000_0000_0001) four) ≡ Err OutOfDomain)
    × (box_outcome (one four (of_bits binary64 0x3fcf_ffff_ffff_ffff)) ≡ Err OutOfDomain)
    × (box_outcome (one four nan) ≡ Err OutOfDomain)
    × (box_outcome (one nan four) ≡ Err OutOfDomain)
    × (box_outcome (record { centre = four ∷ four ∷ four ∷ []; radius = nan; axes = 4 }) ≡ Err Dims)
unfolding of_bits centres_known size_of le every
limits = (refl, refl, refl, refl, refl, refl, refl)
