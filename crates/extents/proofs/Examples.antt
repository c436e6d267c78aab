-- Boxes from extents, computed from the definitions.
use Rattle.std.specs.Prelude.{Err, Ok}
use mathlib.Core.Path.{◌≡◌, refl}
use mathlib.Core.Bool.{true, false}
use mathlib.Core.List.{[], ◌∷◌}
use lib.IntN.{pos, negsuc}
use lib.Ieee.{Float, nan, inf, fin, binary64, of_bits, neg, lt, le, add, sub, div, round}
use Rattle.slices.specs.Every.{every}
use Rattle.refusal.specs.declared.Refusal.TheVariants.{Dims, Box as OutOfDomain}
use Rattle.space.specs.Floats.{size_of}
use Rattle.space.specs.Domain.{centres_known}
use Rattle.extents.specs.Floors.{floor_of, ceil_of}
use Rattle.extents.specs.Extents.{all_finite, margin, middle, half_width, largest, tree_box}
use Rattle.refusal.specs.Outcome.{accepted}

abbrev nought : Float
nought = fin false 0 (pos 0)

abbrev minus-nought : Float
minus-nought = fin true 0 (pos 0)

abbrev half : Float
half = fin false 1 (negsuc 0)

abbrev one : Float
one = fin false 1 (pos 0)

abbrev five : Float
five = fin false 5 (pos 0)

abbrev ten : Float
ten = fin false 5 (pos 1)

-- the largest f64
abbrev most : Float
most = of_bits binary64 0x7fef_ffff_ffff_ffff

-- ---- floors and ceilings keep the sign of a zero, and from 2 ^ 52 on are the number itself
pub floors :
    (floor_of minus-nought ≡ minus-nought)
    × (floor_of half ≡ nought)
    × (floor_of (neg half) ≡ neg one)
    × (ceil_of (neg half) ≡ minus-nought)
    × (ceil_of half ≡ one)
    × (floor_of most ≡ most)
unfolding floor_of neg of_bits round
floors = (refl, refl, refl, refl, refl, refl)

-- ---- boxes
-- an axis upside down is no reason to refuse, while another gives the radius: centre (2.5, 5), radius 5.001
pub upside-down : tree_box (five ∷ nought ∷ nought ∷ ten ∷ [])
    ≡ Ok (record { centre = fin false 5 (negsuc 0) ∷ five ∷ nought ∷ []; radius = of_bits binary64 0x4014_0106_24dd_2f1b; axes = 2 })
unfolding all_finite middle half_width largest floor_of margin neg of_bits lt le add sub div centres_known size_of every
upside-down = refl

-- nor are the largest numbers, where the centre is in the domain
pub largest-numbers : tree_box (most ∷ nought ∷ neg most ∷ ten ∷ [])
    ≡ Ok (record { centre = nought ∷ five ∷ nought ∷ []; radius = of_bits binary64 0x4014_0106_24dd_2f1b; axes = 2 })
unfolding all_finite middle half_width largest floor_of margin neg of_bits lt le add sub div centres_known size_of every
largest-numbers = refl

-- -0.0 .. -0.5 and 0.0 .. 1.0: the centre begins with -0.0
pub minus-zero : tree_box (minus-nought ∷ nought ∷ neg half ∷ one ∷ [])
    ≡ Ok (record { centre = minus-nought ∷ half ∷ nought ∷ []; radius = of_bits binary64 0x3fe0_0831_26e9_78d5; axes = 2 })
unfolding all_finite middle half_width largest floor_of margin neg of_bits lt le add sub div centres_known size_of every
minus-zero = refl

pub refusals :
    (tree_box (one ∷ one ∷ ten ∷ []) ≡ Err Dims)
    × (tree_box (nan ∷ []) ≡ Err Dims)
    × (tree_box (one ∷ inf false ∷ []) ≡ Err OutOfDomain)
    × (tree_box (five ∷ five ∷ []) ≡ Err OutOfDomain)
    × (tree_box (most ∷ nought ∷ most ∷ ten ∷ []) ≡ Err OutOfDomain)
unfolding all_finite middle half_width largest floor_of margin neg of_bits lt le add sub div centres_known size_of every
refusals = (refl, refl, refl, refl, refl)
