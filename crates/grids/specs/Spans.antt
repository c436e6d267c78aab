-- The indices of a cell on each axis, and its halves.
use Rattle.std.specs.Prelude.{◌≡◌, cond, ℕ, ◌+◌, ◌-◌, ◌*◌, ◌/◌, ◌%◌, ◌^◌, ◌≤◌, ◌<◌, eqb, length, get_or}
use Rattle.morton.specs.Keys.{deepest, level_of, code_of}
use Rattle.morton.specs.Anchors.{anchor}
use Rattle.space.specs.declared.Frame.{Frame}
use Rattle.grids.specs.declared.Grid.{Grid}
use Rattle.grids.specs.declared.spans.Span.{Span}
use Rattle.grids.specs.Grids.{shape_on, product}
use Rattle.grids.specs.Ranges.{first_from}

abbrev pub from_on : Span → ℕ → ℕ
from_on s a = get_or s.from a 0

abbrev pub middle_on : Span → ℕ → ℕ
middle_on s a = get_or s.middle a 0

abbrev pub to_on : Span → ℕ → ℕ
to_on s a = get_or s.to a 0

abbrev pub length_on : Span → ℕ → ℕ
length_on s a = to_on s a - from_on s a

-- all indices
pub record Whole (g : Grid) (s : Span) : Type 0 where
  pub from : (a : ℕ) → a < 3 → from_on s a ≡ 0
  pub to : (a : ℕ) → to_on s a ≡ shape_on g a

-- the indices of the cells with anchor x at a level: from that of its first level-16 cell up to that of the next cell's first
pub record OnAxis (f : Frame) (g : Grid) (a level x from to : ℕ) : Type 0 where
  pub starts : from ≡ first_from f g a (x * 2 ^ (deepest - level))
  pub ends : to ≡ first_from f g a ((x + 1) * 2 ^ (deepest - level))

-- a cell's anchor
abbrev pub anchor_on : Frame → ℕ → ℕ → ℕ
anchor_on f k a = anchor f.axes a (level_of k) (code_of k)

-- the span of a cell
pub record Spanned (f : Frame) (g : Grid) (k : ℕ) (s : Span) : Type 0 where
  pub each : (a : ℕ) → a < f.axes → OnAxis f g a (level_of k) (anchor_on f k a) (from_on s a) (to_on s a)

-- and its middle: the first index in the upper half
pub record Parted (f : Frame) (g : Grid) (k : ℕ) (s : Span) : Type 0 where
  pub spanned : Spanned f g k s
  pub middles : (a : ℕ) → a < f.axes → middle_on s a ≡ first_from f g a ((2 * anchor_on f k a + 1) * 2 ^ (15 - level_of k))

-- the half that child c has on each axis: bit a of c tells which
pub record HalfTaken (d : ℕ) (s : Span) (c : ℕ) (t : Span) : Type 0 where
  pub from_is : (a : ℕ) → a < d → from_on t a ≡ cond (eqb (c / 2 ^ a % 2) 0) (from_on s a) (middle_on s a)
  pub to_is : (a : ℕ) → a < d → to_on t a ≡ cond (eqb (c / 2 ^ a % 2) 0) (middle_on s a) (to_on s a)

-- a span that can be counted: on no axis does it end before it begins, and the products of its lengths are small
pub record Counts (d : ℕ) (s : Span) : Type 0 where
  pub most : d ≤ 3
  pub order : (a : ℕ) → a < d → from_on s a ≤ to_on s a
  pub few : (n : ℕ) → n ≤ d → product (length_on s) 0 n ≤ 1048576
