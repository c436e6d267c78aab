-- What a column of the input has in the first row with each node's key.
use Rattle.std.specs.Prelude.{◌≡◌, true, List, ℕ, length}
use Rattle.slices.specs.Lists.{range}
use Rattle.morton.specs.Keys.{axes_known}
use Rattle.tree.specs.WellFormed.{keys_ascend}

-- the keys of nodes in order, an entry of the column for each row, and a place for each node
pub record Fillable (d : ℕ) (key rows column out : List ℕ) : Type 0 where
  pub axes : axes_known d ≡ true
  pub ascend : keys_ascend d key ≡ true
  pub rowed : length column ≡ length rows
  pub placed : length out ≡ length key

-- the same with the rows' numbers, counted from 1, as the column
abbrev pub Numberable : ℕ → (key rows out : List ℕ) → Type 0
Numberable d key rows out = Fillable d key rows (range 1 (length rows)) out
