-- A row handed in: whether it can be a node's, and how many sources it brings.
use Rattle.std.specs.Prelude.{◌≡◌, Bool, true, List, map, ℕ, ◌<◌, min, length, get_or, None, Option, Some}
use Rattle.slices.specs.Lists.{sum, Mem}
use Rattle.tree.specs.Nodes.{own_of}
use Rattle.sums.specs.Right.{Strict}
use Rattle.list_rows.specs.Entries.{takes}

-- one more than the most sources of a tree: a count is carried no farther
abbrev pub too_many : ℕ
too_many = 1048577

-- a row that can be b's: strictly ascending, and each entry is a node's key and passes the test
pub record RowPasses (d : ℕ) (keys own : List ℕ) (far : Bool) (b : ℕ) (row : List ℕ) : Type 0 where
  pub ascends : Strict row
  pub nodes : (i : ℕ) → i < length row → Mem (get_or row i 0) keys
  pub passes : (i : ℕ) → i < length row → takes d keys own far b (get_or row i 0) ≡ true

-- what the cells of a row hold together, by the column of totals
abbrev pub row_total : List ℕ → List ℕ → List ℕ → ℕ
row_total keys total row = sum (map (own_of keys total) row)

-- the row passes and brings so many sources, or it does not pass
abbrev pub Brings : ℕ → (keys own total : List ℕ) → Bool → ℕ → List ℕ → Option ℕ → Type 0
Brings d keys own total far b row (Some n) = RowPasses d keys own far b row × (n ≡ min (row_total keys total row) too_many)
Brings d keys own total far b row None = RowPasses d keys own far b row → ⊥
