-- What a salvage writes when its nodes and their counts stand: the order column, the begins, and the change list.
use Rattle.std.specs.Prelude.{◌≡◌, List, map, ℕ, ◌≤◌, length, take}
use Rattle.tree.specs.WellFormed.{most_sources}
use Rattle.sourced.specs.Room.{Holds}
use Rattle.salvaged.specs.Nodes.{Input}
use Rattle.salvaged.specs.Columns.{new_keys, new_own, new_sources, old_begin}
use Rattle.salvaged.specs.Changes.{changed_keys, change_codes}
use Rattle.kept_sources.specs.Rows.{Readable}

-- the nodes' keys, their counts and where their runs began, and room for the sources and for a number a node
pub record Listable (i : Input) (order key own begin total : List ℕ) : Type 0 where
  pub readable : Readable i
  pub keys : key ≡ new_keys i
  pub owns : own ≡ new_own i
  pub begins : begin ≡ map (old_begin i) (new_keys i)
  pub few : new_sources i ≤ most_sources
  pub placed : new_sources i ≤ length order
  pub totals : length total ≡ length key

-- the list is in the two columns where both have room for it
pub record Listed (i : Input) (codes changed : List ℕ) (r : ℕ) : Type 0 where
  pub keys : Holds changed r (changed_keys i)
  pub coded : r ≤ length codes → r ≤ length changed → take r codes ≡ change_codes i
