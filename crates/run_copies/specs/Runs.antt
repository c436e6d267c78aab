-- Runs of an order column, one after the other.
use Rattle.std.specs.Prelude.{◌≡◌, List, [], ◌∷◌, ◌++◌, ℕ, ◌+◌, ◌≤◌, ◌<◌, length, get_or, take, drop}
use Rattle.slices.specs.Lists.{sum}

-- the runs of so many entries from these begins on
unfoldable pub runs : List ℕ → (begin own : List ℕ) → List ℕ
runs order [] own = []
runs order (b ∷ begin) [] = []
runs order (b ∷ begin) (n ∷ own) = take n (drop b order) ++ runs order begin own

-- no run that has an entry passes the column's end, and there is room for all
pub record Copiable (order begin own out : List ℕ) : Type 0 where
  pub begins : length begin ≡ length own
  pub within : (q : ℕ) → q < length own → 0 < get_or own q 0 → get_or begin q 0 + get_or own q 0 ≤ length order
  pub fits : sum own ≤ length out
