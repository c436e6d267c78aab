-- Worked examples, computed from the definitions: the box [0, 8) on each axis, and grids at its walls.
use mathlib.Core.Path.{◌≡◌, refl}
use mathlib.Core.Bool.{true, false}
use mathlib.Core.List.{[], ◌∷◌, map}
use Prim.Native.Nat.{ℕ}
use lib.IntN.{pos}
use lib.Ieee.{Float, nan, inf, fin, binary64, add, sub, mul, div, of_int, of_bits}
use Rattle.slices.specs.Every.{every}
use Rattle.slices.specs.Lists.{range}
use Rattle.morton.specs.Anchors.{anchor}
use Rattle.space.specs.declared.Frame.{Frame}
use Rattle.space.specs.Cells.{frame_of}
use Rattle.std.specs.Prelude.{None}
use Rattle.grids.specs.declared.Grid.{Grid}
use Rattle.grids.specs.Grids.{coordinate, product, index_on, grid_known}
use Rattle.grids.specs.Ranges.{first_from, grid_count}
use Rattle.grids.specs.Exits.{first_of, last_of, leaves, grid_exit}

abbrev four : Float
four = fin false 1 (pos 2)

abbrev frame : ℕ → Frame
frame d = frame_of (record { centre = four ∷ four ∷ four ∷ []; radius = four; axes = d })

-- one origin and one spacing for all axes
abbrev grid : Float → Float → ℕ → ℕ → Grid
grid o s m n = record { origin = o ∷ o ∷ nan ∷ []; spacing = s ∷ s ∷ nan ∷ []; shape = m ∷ n ∷ 0 ∷ [] }

abbrev nought : Float
nought = fin false 0 (pos 0)

abbrev one : Float
one = fin false 1 (pos 0)

-- eight points fit and the ninth does not
pub along : (grid_exit (frame 1) (grid nought one 8 0) ≡ None) × (grid_exit (frame 1) (grid nought one 9 0) ≡ leaves 8 0)
unfolding first_from first_of last_of product add sub mul div of_int
along = (refl, refl)

-- of two axes the last leaves first, unless it stays
pub across : (grid_exit (frame 2) (grid nought one 9 9) ≡ leaves 8 1) × (grid_exit (frame 2) (grid nought one 9 2) ≡ leaves 16 0)
unfolding first_from first_of last_of product add sub mul div of_int
across = (refl, refl)

-- origins 8 and -1
pub at_once : (grid_exit (frame 1) (grid (fin false 1 (pos 3)) one 2 0) ≡ leaves 0 0) × (grid_exit (frame 2) (grid (fin true 1 (pos 0)) one 2 2) ≡ leaves 0 0)
unfolding first_from first_of last_of product add sub mul div of_int
at_once = (refl, refl)

-- a spacing that overflows at the second index, and the smallest spacing, which leaves all points in one cell
pub extremes : (grid_exit (frame 1) (grid nought (of_bits binary64 0x7fef_ffff_ffff_ffff) 3 0) ≡ leaves 1 0) × (grid_count (frame 1) (grid one (of_bits binary64 1) 5 0) 16 8192 ≡ 5)
unfolding first_from first_of last_of product anchor add sub mul div of_int of_bits
extremes = (refl, refl)

-- 0.1 + 3 * 0.3 is below 1, by one product and one sum: fused it would be 1
pub rounded-twice : coordinate (grid (of_bits binary64 0x3fb9_9999_9999_999a) (of_bits binary64 0x3fd3_3333_3333_3333) 4 0) 0 3 ≡ of_bits binary64 0x3fef_ffff_ffff_ffff
unfolding add mul of_int of_bits
rounded-twice = refl

-- of 4 by 4 points, two apart, the cell [0, 4) x [4, 8) has 2 by 2
pub four-of-sixteen : (grid_count (frame 2) (grid nought (fin false 1 (pos 1)) 4 4) 1 2 ≡ 4) × (grid_count (frame 2) (grid nought (fin false 1 (pos 1)) 4 3) 1 2 ≡ 2)
unfolding first_from product anchor add sub mul div of_int
four-of-sixteen = (refl, refl)

-- the last axis is the fastest
pub rows : map (λ r. index_on 2 (grid nought one 2 3) 0 r) (range 0 6) ≡ 0 ∷ 0 ∷ 0 ∷ 1 ∷ 1 ∷ 1 ∷ []
unfolding product range
rows = refl

pub fastest : map (λ r. index_on 2 (grid nought one 2 3) 1 r) (range 0 6) ≡ 0 ∷ 1 ∷ 2 ∷ 0 ∷ 1 ∷ 2 ∷ []
unfolding product range
fastest = refl

-- a shape of 0, spacings 0, -0 and infinite, an origin that is not finite; a second axis that is not there
pub refused :
    (grid_known 1 (grid nought one 0 1) ≡ false)
    × (grid_known 1 (grid nought nought 1 1) ≡ false)
    × (grid_known 1 (grid nought (fin true 0 (pos 0)) 1 1) ≡ false)
    × (grid_known 1 (grid nought (inf false) 1 1) ≡ false)
    × (grid_known 1 (grid nan one 1 1) ≡ false)
    × (grid_known 2 (grid nought one 1 0) ≡ false)
    × (grid_known 1 (grid nought one 1 0) ≡ true)
unfolding grid_known every
refused = (refl, refl, refl, refl, refl, refl, refl)
