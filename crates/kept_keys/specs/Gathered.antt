-- The keys of a salvage in the order in which they were put.
use Rattle.std.specs.Prelude.{◌≡◌, List, ℕ, suc, ◌≤◌, ◌<◌, length, get_or, take}
use Rattle.slices.specs.Lists.{Mem}
use Rattle.salvaged.specs.Nodes.{kept_keys}

-- the root, without a child
pub record Rooted (key child : List ℕ) : Type 0 where
  pub root : get_or key 0 0 ≡ 0
  pub alone : get_or child 0 0 ≡ 0

-- the first r entries are the keys that are kept, each once; or there are too many for the room
pub record Gathered (d : ℕ) (rows : List ℕ) (room : ℕ) (key : List ℕ) (r : ℕ) : Type 0 where
  pub some : 0 < r
  pub within : r ≤ room → r ≤ length key
  pub only : r ≤ room → (q : ℕ) → q < r → Mem (get_or key q 0) (kept_keys d rows)
  pub all : r ≤ room → (y : ℕ) → Mem y (kept_keys d rows) → (q : ℕ) × (q < r) × (get_or key q 0 ≡ y)
  pub once : r ≤ room → (p q : ℕ) → p < r → q < r → get_or key p 0 ≡ get_or key q 0 → p ≡ q
  pub short : room < r → (r ≡ suc room) × (room < length (kept_keys d rows))

-- there are r of them, and they stand in the first places; or they are too many for the room
pub record Ordered (d : ℕ) (rows : List ℕ) (room : ℕ) (key : List ℕ) (r : ℕ) : Type 0 where
  pub fits : r ≤ room → (r ≡ length (kept_keys d rows)) × (take r key ≡ kept_keys d rows)
  pub short : room < r → (r ≡ suc room) × (room < length (kept_keys d rows))
