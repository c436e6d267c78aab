-- Where the targets are those of a grid: the span that the sizes hold is that of a cell, or of the parent of a cell.
use Rattle.std.specs.Prelude.{◌≡◌, true, List, ℕ, ◌^◌, ◌<◌}
use Rattle.morton.specs.Keys.{level_of, child}
use Rattle.grids.specs.Ranges.{Fitting}
use Rattle.grids.specs.Spans.{Parted}
use Rattle.parting.specs.declared.Sizes.{Sizes}
use Rattle.parting.specs.Setting.{setting}

-- of the cell k
pub record At (d : ℕ) (z : Sizes) (k : ℕ) : Type 0 where
  pub fits : Fitting z.frame z.grid
  pub axes : z.frame.axes ≡ d
  pub parted : Parted z.frame z.grid k z.span

abbrev pub SpanAt : ℕ → Sizes → ℕ → Type 0
SpanAt d z k = z.gridded ≡ true → At d z k

-- of a cell whose child k is
pub record Over (d : ℕ) (z : Sizes) (k : ℕ) : Type 0 where
  pub above : ℕ
  pub digit : ℕ
  pub is : k ≡ child d above digit
  pub small : digit < 2 ^ d
  pub low : level_of above < 16
  pub at : At d z above

abbrev pub SpanOver : ℕ → Sizes → ℕ → Type 0
SpanOver d z k = z.gridded ≡ true → Over d z k

-- nothing but the span is another, and it is that of the cell k
pub record Descended (d : ℕ) (z : Sizes) (k : ℕ) (y : Sizes) : Type 0 where
  pub same : (sums : List ℕ) → setting y sums ≡ setting z sums
  pub at : SpanAt d y k
