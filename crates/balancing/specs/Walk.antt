-- The walk over the balanced tree: what a look at some nodes tells, which cell comes next, and what is written at the end.
use Rattle.std.specs.Prelude.{◌≡◌, Bool, ◌&&◌, cond, List, ℕ, zero, suc, ◌+◌, ◌/◌, ◌%◌, ◌^◌, ◌≤◌, min, ltb, length, get_or, take}
use Rattle.slices.specs.Lists.{any, range}
use Rattle.morton.specs.Keys.{key, level_of, code_of, child}
use Rattle.balance.specs.Splitting.{inside, split, must_split, balanced_cells}

-- a split cell among so many nodes lies inside r's block
unfoldable pub split_among : ℕ → List ℕ → ℕ → ℕ → ℕ → Bool
split_among d keys r from many = any (λ j. split d keys (get_or keys j 0) && inside d r (get_or keys j 0)) (range from many)

-- the cell after one of this level and code and all below it: its next sibling, or that of the first cell above it that has one; 0, which comes after none, if none has
unfoldable pub next_after : ℕ → ℕ → ℕ → ℕ
next_after d zero code = 0
next_after d (suc l) code = cond (ltb (code % 2 ^ d + 1) (2 ^ d)) (key (suc l) (code + 1)) (next_after d l (code / 2 ^ d))

-- the cell after cell k in the balanced tree: its first child if it must be split
abbrev pub next_cell : ℕ → List ℕ → ℕ → ℕ
next_cell d keys k = cond (must_split d keys k) (child d k 0) (next_after d (level_of k) (code_of k))

-- the cells are counted, to one more than the room, and written where there is room for all
pub record Put (d : ℕ) (keys : List ℕ) (room r : ℕ) (out : List ℕ) : Type 0 where
  pub counted : r ≡ min (length (balanced_cells d keys)) (room + 1)
  pub written : r ≤ room → take r out ≡ balanced_cells d keys
