-- What a search for the leaf of a code goes by.
use Rattle.std.specs.Prelude.{◌≡◌, ℕ, ◌<◌, ◌≤◌, Bool, ◌&&◌, List, length, nat_le, slice_index}
use Rattle.morton.specs.Keys.{holds}
use Rattle.tree.specs.Nodes.{leaf}
use Rattle.tree.specs.Order.{first}

-- a node is a leaf that holds the code
abbrev pub leaf_holds : ℕ → List ℕ → ℕ → ℕ → Bool
leaf_holds d keys code node = holds d (slice_index keys node) code && leaf d keys (slice_index keys node)

-- r is the last node whose first code is at most a level-16 code
pub record LastNode (d : ℕ) (keys : List ℕ) (code r : ℕ) : Type 0 where
  pub within : r < length keys
  pub splits : (j : ℕ) → j < length keys → nat_le (first d (slice_index keys j)) code ≡ nat_le j r

-- the last node that begins by the code stands from `low` on and before `high`
pub record Between (d : ℕ) (keys : List ℕ) (code low high : ℕ) : Type 0 where
  pub apart : low < high
  pub most : high ≤ length keys
  pub below : first d (slice_index keys low) ≤ code
  pub above : high < length keys → code < first d (slice_index keys high)
