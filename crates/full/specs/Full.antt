-- Document 02, orders 7 and 9: the cells of a tree that have children, and whether each of them has all.
use Rattle.std.specs.Prelude.{◌≡◌, Bool, true, List, ℕ}
use Rattle.slices.specs.Lists.{any, Mem}
use Rattle.morton.specs.Keys.{children}
use Rattle.tree.specs.Nodes.{child_of}

-- a child of cell k is stored
abbrev pub has_children : ℕ → List ℕ → ℕ → Bool
has_children d keys k = any (child_of d k) keys

-- each cell with children has all 2^d
abbrev pub Full : ℕ → List ℕ → Type 0
Full d keys = (k j : ℕ) → Mem k keys → has_children d keys k ≡ true → Mem j (children d k) → Mem j keys
