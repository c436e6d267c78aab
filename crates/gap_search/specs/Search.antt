-- What the search for the cell that a further source changes asks and answers.
use Rattle.std.specs.Prelude.{◌≡◌, Bool, true, false, List, ℕ, ◌-◌, ◌≤◌, ◌<◌, length, get_or}
use Rattle.slices.specs.Lists.{Mem}
use Rattle.tree.specs.Nodes.{leaf}
use Rattle.tree.specs.Leaves.{cell_of}

-- node i is the cell, which is no leaf; or, where it is the cell, that is one
abbrev pub Inner : ℕ → List ℕ → ℕ → ℕ → Bool → Type 0
Inner d keys i cell true = (i < length keys) × (get_or keys i 0 ≡ cell) × (leaf d keys cell ≡ false)
Inner d keys i cell false = i < length keys → get_or keys i 0 ≡ cell → leaf d keys cell ≡ true

-- the cell of level l that holds the code is a leaf where it is stored, and the one above it is stored and is none
pub record GapLevel (d : ℕ) (keys : List ℕ) (code l : ℕ) : Type 0 where
  pub least : 1 ≤ l
  pub most : l ≤ 16
  pub parted : Mem (cell_of d (l - 1) code) keys
  pub parted_inner : leaf d keys (cell_of d (l - 1) code) ≡ false
  pub lowest : Mem (cell_of d l code) keys → leaf d keys (cell_of d l code) ≡ true
