-- What was found of cells: in each slot a key, with the lifted readings and the sources of its cell.
use Rattle.std.specs.Prelude.{◌≡◌, List, ℕ, ◌<◌, ℤ, length, get_or}
use Rattle.tree.specs.Nodes.{own_of}
use Rattle.row_sums.specs.Readings.{Read, Columns}
use Rattle.cell_sums.specs.Lifted.{cell_lifted, Before}

pub record Kept (keys total begin order : List ℕ) (readings : List ℤ) (names held counts : List ℕ) : Type 0 where
  pub names_size : length names ≡ 1536
  pub held_size : length held ≡ 1536
  pub counts_size : length counts ≡ 1536
  pub sums : (s : ℕ) → s < 1536 → get_or held s 0 ≡ cell_lifted keys total begin order readings (get_or names s 0)
  pub sources : (s : ℕ) → s < 1536 → get_or counts s 0 ≡ own_of keys total (get_or names s 0)

-- the columns of a tree with its totals, and the sums before each place
pub record Summed (d : ℕ) (keys total begin order : List ℕ) (readings : List ℤ) (sums : List ℕ) : Type 0 where
  pub columns : Columns d keys total begin order
  pub read : Read order readings
  pub before : Before order readings sums
