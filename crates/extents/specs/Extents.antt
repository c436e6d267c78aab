-- Document 01: the box from extents, lows and then highs.
use Rattle.std.specs.Prelude.{Bool, true, false, ◌&&◌, ◌||◌, cond, List, [], ◌∷◌, ℕ, zero, suc, ◌+◌, ◌/◌, pos, ltb, eqb, Float, length, get_or, Ok}
use Rattle.std.specs.Float.{nan, inf, fin, binary64}
use Rattle.std.specs.Float.Ieee.{round, add, sub, div, lt}
use Rattle.refusal.specs.declared.Refusal.TheVariants.{Dims, Box as OutOfDomain}
use Rattle.space.specs.declared.Box.{Box}
use Rattle.refusal.specs.Chain.{ask, ◌then◌}
use Rattle.space.specs.Floats.{is_finite, nought}
use Rattle.space.specs.Domain.{box_outcome}
use Rattle.space.specs.Cells.{on_axis}
use Rattle.extents.specs.Floors.{floor_of, ceil_of}
use Rattle.refusal.specs.Outcome.{Answer, Outcome}

-- 2, 4 or 6 numbers
abbrev pub length_known : ℕ → Bool
length_known n = eqb n 2 || (eqb n 4 || eqb n 6)

unfoldable pub all_finite : List Float → Bool
all_finite [] = true
all_finite (x ∷ xs) = is_finite x && all_finite xs

abbrev pub two : Float
two = fin false 1 (pos 1)

-- the f64 nearest to 0.001
unfoldable pub margin : Float
margin = round binary64 false 1 1000

-- axis a of d: floor of the low, ceiling of the high
abbrev pub low : List Float → ℕ → Float
low xs a = floor_of (get_or xs a nan)

abbrev pub high : List Float → ℕ → ℕ → Float
high xs d a = ceil_of (get_or xs (d + a) nan)

-- (low + high) / 2
unfoldable pub middle : List Float → ℕ → ℕ → Float
middle xs d a = on_axis (ltb a d) (div binary64 (add binary64 (low xs a) (high xs d a)) two)

-- (high - low) / 2 + 1e-3
unfoldable pub half_width : List Float → ℕ → ℕ → Float
half_width xs d a = add binary64 (div binary64 (sub binary64 (high xs d a) (low xs a)) two) margin

-- the larger of two numbers, neither of which is a NaN here
abbrev pub larger : Float → Float → Float
larger x y = cond (lt x y) y x

-- the largest reach of the first n axes, from minus infinity on
unfoldable pub largest : ℕ → List Float → ℕ → Float
largest zero xs d = inf true
largest (suc n) xs d = larger (largest n xs d) (half_width xs d n)

abbrev pub box_from : List Float → ℕ → Box
box_from xs d = record { centre = middle xs d 0 ∷ middle xs d 1 ∷ middle xs d 2 ∷ []; radius = largest d xs d; axes = d }

-- 1 DIMS by the length, then 2 BOX for a number that is not finite, then 2 BOX for a box outside its domain
abbrev pub extents_outcome : List Float → Outcome
extents_outcome xs = ask (length_known (length xs)) Dims then ask (all_finite xs) OutOfDomain then box_outcome (box_from xs (length xs / 2))

abbrev pub tree_box : List Float → Answer Box
tree_box xs = extents_outcome xs then Ok (box_from xs (length xs / 2))
