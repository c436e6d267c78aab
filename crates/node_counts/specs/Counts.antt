-- The counts of a salvage, from what the first rows say.
use Rattle.std.specs.Prelude.{◌≡◌, ◌&&◌, cond, List, map, ℕ, ◌+◌, leb, length, get_or}
use Rattle.slices.specs.Lists.{range}
use Rattle.tree.specs.Nodes.{leaf}
use Rattle.tree.specs.Finding.{TreeKeys}

-- a node that has children, the root, or a leaf whose run passes the end gets count 0
unfoldable pub count_at : ℕ → (key begin own : List ℕ) → ℕ → ℕ → ℕ
count_at d key begin own entries q = cond (leaf d key (get_or key q 0) && leb (get_or begin q 0 + get_or own q 0) entries) (get_or own q 0) 0

abbrev pub counts_kept : ℕ → (key begin own : List ℕ) → ℕ → List ℕ
counts_kept d key begin own entries = map (count_at d key begin own entries) (range 0 (length key))

pub record Countable (d : ℕ) (key begin own : List ℕ) : Type 0 where
  pub nodes : TreeKeys d key
  pub begins : length begin ≡ length key
  pub owns : length own ≡ length key
