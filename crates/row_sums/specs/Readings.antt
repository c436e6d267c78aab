-- What a sum of readings asks: places, indices and readings that fit together.
use Rattle.std.specs.Prelude.{◌≡◌, true, List, map, ℕ, ◌+◌, ◌≤◌, ◌<◌, ℤ, pos, nat_abs, length, get_or}
use Rattle.slices.specs.Lists.{sum, Distinct}
use Rattle.tree.specs.Nodes.{own_of}
use Rattle.morton.specs.Keys.{axes_known}
use Rattle.tree.specs.WellFormed.{most_sources, keys_ascend}

-- the largest size of a reading, 2 ^ 40
abbrev pub largest : ℕ
largest = 1099511627776

-- each index is a reading's, and no reading is too large
pub record Read (order : List ℕ) (readings : List ℤ) : Type 0 where
  pub indexed : (p : ℕ) → p < length order → get_or order p 0 < length readings
  pub small : (i : ℕ) → i < length readings → nat_abs (get_or readings i (pos 0)) ≤ largest

-- and the places from one on are the order column's
pub record Readable (order : List ℕ) (readings : List ℤ) (from count : ℕ) : Type 0 where
  pub read : Read order readings
  pub within : from + count ≤ length order
  pub few : count ≤ most_sources

-- a column of counts beside the keys of a tree, so that a node is found
pub record Counts (d : ℕ) (keys count : List ℕ) : Type 0 where
  pub counts : length count ≡ length keys
  pub distinct : Distinct keys
  pub axes : axes_known d ≡ true
  pub ordered : keys_ascend d keys ≡ true

-- columns of one length, with each node's count and where its run begins: no key twice, the keys in order, so that a node is found, and each run in the order column
pub record Columns (d : ℕ) (keys count begin order : List ℕ) : Type 0 where
  pub counts : length count ≡ length keys
  pub begins : length begin ≡ length keys
  pub distinct : Distinct keys
  pub axes : axes_known d ≡ true
  pub ordered : keys_ascend d keys ≡ true
  pub runs : (i : ℕ) → i < length keys → get_or begin i 0 + get_or count i 0 ≤ length order

-- the sources in a row
abbrev pub sources_in : List ℕ → List ℕ → List ℕ → ℕ
sources_in keys count row = sum (map (own_of keys count) row)
