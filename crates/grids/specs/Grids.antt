-- Document 02, order 1: the points of a regular grid, the last axis fastest. d is the number of axes.
use Rattle.std.specs.Prelude.{Bool, ◌&&◌, List, [], ◌++◌, map, ℕ, zero, suc, ◌+◌, ◌-◌, ◌*◌, ◌/◌, ◌%◌, pos, leb, Float, get_or}
use Rattle.std.specs.Float.{nan, binary64}
use Rattle.std.specs.Float.Ieee.{add, mul, of_int}
use Rattle.std.specs.Float.Ieee.Positive.{positive}
use Rattle.slices.specs.Lists.{range}
use Rattle.slices.specs.Every.{every}
use Rattle.space.specs.Floats.{is_finite}
use Rattle.grids.specs.declared.Grid.{Grid}

-- origin plus index times spacing: one product and one sum
abbrev pub coordinate : Grid → ℕ → ℕ → Float
coordinate g a i = add binary64 (get_or g.origin a nan) (mul binary64 (of_int binary64 (pos i)) (get_or g.spacing a nan))

abbrev pub shape_on : Grid → ℕ → ℕ
shape_on g a = get_or g.shape a 0

-- the product of n numbers, from that of place a on
unfoldable pub product : (ℕ → ℕ) → ℕ → ℕ → ℕ
product s a zero = 1
product s a (suc n) = product s a n * s (a + n)

abbrev pub points_of : ℕ → Grid → ℕ
points_of d g = product (shape_on g) 0 d

-- the product of the later axes' shapes
abbrev pub stride_on : ℕ → Grid → ℕ → ℕ
stride_on d g a = product (shape_on g) (suc a) (d - suc a)

-- the index on axis a of a row
abbrev pub index_on : ℕ → Grid → ℕ → ℕ → ℕ
index_on d g a row = row / stride_on d g a % shape_on g a

abbrev pub row_of : ℕ → Grid → ℕ → List Float
row_of d g row = map (λ a. coordinate g a (index_on d g a row)) (range 0 d)

-- n rows, one after the other
unfoldable pub flat : (ℕ → List Float) → ℕ → List Float
flat f zero = []
flat f (suc n) = flat f n ++ f n

-- the listed points
abbrev pub listed : ℕ → Grid → List Float
listed d g = flat (row_of d g) (points_of d g)

-- no shape is 0, origin and spacing are finite, and spacing is above 0
abbrev pub axis_known : Grid → ℕ → Bool
axis_known g a = leb 1 (shape_on g a) && (is_finite (get_or g.origin a nan) && positive (get_or g.spacing a nan))

-- on each axis below d
unfoldable pub grid_known : ℕ → Grid → Bool
grid_known d g = every d (axis_known g)

-- at most 1,048,576 points
abbrev pub few_points : ℕ → Grid → Bool
few_points d g = leb (points_of d g) 1048576
