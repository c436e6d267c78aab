-- Readings lifted by 2 ^ 40, so that none is below 0: sums of them are natural numbers.
use Rattle.std.specs.Prelude.{◌≡◌, List, map, ℕ, ◌≤◌, ◌<◌, ℤ, pos, nat_abs, ◌+ℤ◌, length, get_or}
use Rattle.slices.specs.Lists.{sum, range}
use Rattle.tree.specs.Nodes.{own_of}
use Rattle.sums.specs.Sums.{reading_at}
use Rattle.row_sums.specs.Readings.{largest}

-- of a reading
abbrev pub lift : ℤ → ℕ
lift x = nat_abs (x +ℤ pos largest)

-- of the sources at so many places, from one on
unfoldable pub run_lifted : List ℕ → List ℤ → ℕ → ℕ → ℕ
run_lifted order readings from count = sum (map (λ p. lift (reading_at order readings p)) (range from count))

-- of a cell with its total, by its key
abbrev pub cell_lifted : (keys total begin order : List ℕ) → List ℤ → ℕ → ℕ
cell_lifted keys total begin order readings k = run_lifted order readings (own_of keys begin k) (own_of keys total k)

-- of the cells in a row
abbrev pub row_lifted : (keys total begin order : List ℕ) → List ℤ → List ℕ → ℕ
row_lifted keys total begin order readings row = sum (map (cell_lifted keys total begin order readings) row)

-- before each place, and before the end
pub record Before (order : List ℕ) (readings : List ℤ) (sums : List ℕ) : Type 0 where
  pub size : length order < length sums
  pub is : (p : ℕ) → p ≤ length order → get_or sums p 0 ≡ run_lifted order readings 0 p
