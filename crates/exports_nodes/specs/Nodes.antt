-- What the C face tells of the nodes of a key column.
use Rattle.std.specs.Prelude.{◌≡◌, Bool, true, false, ◌&&◌, ◌||◌, List, ℕ, suc, ◌≤◌, ◌<◌, ltb, leb, length, get_or}
use Rattle.morton.specs.Keys.{axes_known, level_of}
use Rattle.tree.specs.Nodes.{stored}
use Rattle.tree.specs.WellFormed.{keys_ascend}

-- a node with key k is found by its number; and where the keys are valid and in order, none is found only if none has it
abbrev pub Finds : (d : ℕ) (keys : List ℕ) (k : ℕ) (found : Bool) (node : ℕ) → Type 0
Finds d keys k true node = (node < length keys) × (get_or keys node 0 ≡ k)
Finds d keys k false node = (node ≡ 0) × (axes_known d ≡ true → keys_ascend d keys ≡ true → stored keys k ≡ false)

-- a row other than the first, after which no deeper one follows
abbrev pub leaf_row : List ℕ → ℕ → Bool
leaf_row keys i = ltb 0 i && (ltb i (length keys) && (leb (length keys) (suc i) || leb (level_of (get_or keys (suc i) 0)) (level_of (get_or keys i 0))))

-- r is the first row from a number on that has the level; the number of rows where none has
pub record FirstOfLevel (keys : List ℕ) (level from r : ℕ) : Type 0 where
  pub within : r ≤ length keys
  pub at : r < length keys → (from ≤ r) × (level_of (get_or keys r 0) ≡ level)
  pub none : (i : ℕ) → from ≤ i → i < r → (level_of (get_or keys i 0) ≡ level → ⊥)
