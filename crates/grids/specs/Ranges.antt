-- The points of a grid in a cell, by index ranges: on each axis the level-16 cells rise with the index.
use Rattle.std.specs.Prelude.{Bool, true, cond, ◌&&◌, ◌≡◌, List, ℕ, zero, suc, ◌+◌, ◌-◌, ◌*◌, ◌^◌, ◌≤◌, ◌<◌, min, ℤ, pos, negsuc, leb, Float, get_or}
use Rattle.std.specs.Float.{nan, inf, fin}
use Rattle.std.specs.Float.Ieee.{up, down}
use Rattle.std.specs.Float.Ieee.Positive.{positive}
use Rattle.slices.specs.Lists.{bit}
use Rattle.morton.specs.Keys.{deepest}
use Rattle.morton.specs.Anchors.{anchor}
use Rattle.space.specs.declared.Frame.{Frame}
use Rattle.space.specs.Floats.{is_finite, floor_ratio}
use Rattle.space.specs.Cells.{quotient}
use Rattle.space.specs.Rows.{codes16}
use Rattle.grids.specs.declared.Grid.{Grid}
use Rattle.grids.specs.Grids.{coordinate, shape_on, product, points_of, listed, axis_known, grid_known}

-- The steps of an axis in order: 0 is below the box, k + 1 is level-16 cell k, and 65537 is above the box.
abbrev pub step_at : ℤ → ℕ
step_at (negsuc k) = 0
step_at (pos k) = suc (min k 65536)

-- the step of a quotient, by its floor; an overflow is past all cells
unfoldable pub step_of : Float → ℕ
step_of nan = 65537
step_of (inf s) = cond s 0 65537
step_of (fin s m e) = step_at (floor_ratio s (m * up e) (down e))

-- the step of index i on axis a
unfoldable pub step_on : Frame → Grid → ℕ → ℕ → ℕ
unfolding step_of
step_on f g a i = step_of (quotient (coordinate g a i) (get_or f.displacement a nan) f.side)

-- a finite displacement and a side above 0, as every box of the domain has
abbrev pub frame_known : Frame → ℕ → Bool
frame_known f a = is_finite (get_or f.displacement a nan) && positive f.side

-- how many numbers below n pass a test
unfoldable pub tally : (ℕ → Bool) → ℕ → ℕ
tally p zero = 0
tally p (suc n) = bit (p n) + tally p n

-- how many indices of axis a come before level-16 cell x
unfoldable pub first_from : Frame → Grid → ℕ → ℕ → ℕ
unfolding tally step_on
first_from f g a x = tally (λ i. leb (step_on f g a i) x) (shape_on g a)

-- what a search on axis a asks for
pub record Searched (f : Frame) (g : Grid) (a : ℕ) : Type 0 where
  pub few_axes : a < 3
  pub few : shape_on g a ≤ 1048576
  pub framed : frame_known f a ≡ true
  pub known : axis_known g a ≡ true

-- what a search from `from` to `to` asks for: the answer is there
pub record Sought (f : Frame) (g : Grid) (a from to x : ℕ) : Type 0 where
  pub axis : Searched f g a
  pub wall : x ≤ 65536
  pub low : from ≤ first_from f g a x
  pub high : first_from f g a x ≤ to
  pub within : to ≤ shape_on g a

-- what a call on all axes asks for: 1 to 3 of them, on each a known grid and frame, and few points
pub record Fitting (f : Frame) (g : Grid) : Type 0 where
  pub least : 1 ≤ f.axes
  pub most : f.axes ≤ 3
  pub known : grid_known f.axes g ≡ true
  pub framed : (a : ℕ) → a < f.axes → frame_known f a ≡ true
  pub few : points_of f.axes g ≤ 1048576

-- how many indices of axis a lie in the cell with anchor x at a level: the length of a range
abbrev pub range_in : Frame → Grid → ℕ → ℕ → ℕ → ℕ
range_in f g a level x = first_from f g a ((x + 1) * 2 ^ (deepest - level)) - first_from f g a (x * 2 ^ (deepest - level))

-- how many of the grid's points lie in a cell
abbrev pub grid_count : Frame → Grid → ℕ → ℕ → ℕ
grid_count f g level code = product (λ a. range_in f g a level (anchor f.axes a level code)) 0 f.axes

-- the level-16 codes of the listed points
unfoldable pub grid_codes : Frame → Grid → List ℕ
grid_codes f g = codes16 (points_of f.axes g) f (listed f.axes g)
