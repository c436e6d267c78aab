-- What is known of a piece of the targets: its codes, and the counts with it.
use Rattle.std.specs.Prelude.{◌≡◌, true, false, List, ℕ, ◌+◌, ◌*◌, ◌≤◌, ◌<◌, Float, length, get_or, drop}
use Rattle.space.specs.declared.Frame.{Frame}
use Rattle.space.specs.Cells.{inside, code16}
use Rattle.grouping.specs.Passes.{first_in}

-- of so many rows, `far` apart from row `from` on, the first n are inside, and their codes are these; if there are more, the next one is outside
pub record Piece (f : Frame) (xs : List Float) (from far most : ℕ) (codes : List ℕ) (n : ℕ) : Type 0 where
  pub within : n ≤ most
  pub all_in : (i : ℕ) → i < n → inside f (drop ((from + i * far) * f.axes) xs) ≡ true
  pub codes_are : (i : ℕ) → i < n → get_or codes i 0 ≡ code16 f (drop ((from + i * far) * f.axes) xs)
  pub stop : n < most → inside f (drop ((from + n * far) * f.axes) xs) ≡ false

-- the first n marks are counted on top of what stood there: keys tell the nodes apart
pub record Added (keys marks : List ℕ) (n : ℕ) (old new : List ℕ) : Type 0 where
  pub kept : length new ≡ length old
  pub sums : (j : ℕ) → j < length keys → get_or new j 0 ≡ get_or old j 0 + first_in marks n (get_or keys j 0)
  pub rest : (j : ℕ) → length keys ≤ j → get_or new j 0 ≡ get_or old j 0
