-- What the far rows of a cell and its ancestors have, by rows handed in and a column of totals.
use Rattle.std.specs.Prelude.{List, map, ℕ, ◌≤◌, ◌<◌, ℤ, length, get_or}
use Rattle.slices.specs.Lists.{sum, Mem}
use Rattle.morton.specs.Keys.{level_of, parent, ancestors, ValidKey}
use Rattle.tree.specs.WellFormed.{most_sources}
use Rattle.rows.specs.Written.{row_of}
use Rattle.sums.specs.Adding.{addedℤ}
use Rattle.sums.specs.Sums.{node_readings}
use Rattle.sums.specs.Right.{StartsRight}
use Rattle.row_sums.specs.Readings.{Read, Columns, sources_in}

-- their readings
abbrev pub far_readings : ℕ → (keys total begin order : List ℕ) → List ℤ → (starts flat : List ℕ) → ℕ → ℤ
far_readings d keys total begin order readings starts flat b = addedℤ (λ a. addedℤ (node_readings keys total begin order readings) (row_of keys starts flat a)) (ancestors d b)

-- how many cells they list
abbrev pub far_cells : ℕ → (keys starts flat : List ℕ) → ℕ → ℕ
far_cells d keys starts flat b = sum (map (λ a. length (row_of keys starts flat a)) (ancestors d b))

-- and how many sources those hold
abbrev pub far_count : ℕ → (keys total starts flat : List ℕ) → ℕ → ℕ
far_count d keys total starts flat b = sum (map (λ a. sources_in keys total (row_of keys starts flat a)) (ancestors d b))

-- the columns of a tree with its totals, far rows with right starts, and a node whose far cells hold no more sources than there can be
pub record Climb (d : ℕ) (keys total begin order : List ℕ) (readings : List ℤ) (starts flat : List ℕ) (node : ℕ) : Type 0 where
  pub columns : Columns d keys total begin order
  pub read : Read order readings
  pub starts_right : StartsRight keys starts flat
  pub valid : (k : ℕ) → Mem k keys → ValidKey d k
  pub parents : (k : ℕ) → Mem k keys → 0 < level_of k → Mem (parent d k) keys
  pub within : node < length keys
  pub few : far_count d keys total starts flat (get_or keys node 0) ≤ most_sources
  pub cells_few : far_cells d keys starts flat (get_or keys node 0) ≤ most_sources
