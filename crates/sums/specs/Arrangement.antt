-- An order column arranges all indices below n: it has n entries, each below n, and none twice.
use Rattle.std.specs.Prelude.{◌≡◌, Bool, List, ℕ, ◌<◌, length, get_or}
use Rattle.slices.specs.Lists.{range, Distinct}
use Rattle.slices.specs.Order.{ascending}
use Rattle.sums.specs.Right.{same}

pub record AllIndices (order : List ℕ) (n : ℕ) : Type 0 where
  pub entries : length order ≡ n
  pub below : (i : ℕ) → i < length order → get_or order i 0 < n
  pub once : Distinct order

-- the same as a test: sorted, it is 0, 1, .. n - 1
unfoldable pub arranges : List ℕ → ℕ → Bool
unfolding same
arranges order n = same (ascending order) (range 0 n)
