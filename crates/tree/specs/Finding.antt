-- What a search in the key column asks and answers.
use Rattle.std.specs.Prelude.{◌≡◌, Bool, true, false, List, ℕ, ◌≤◌, ◌<◌, ltb, length, get_or, None, Option, Some}
use Rattle.morton.specs.Keys.{axes_known, level_of}
use Rattle.tree.specs.Nodes.{stored}
use Rattle.tree.specs.WellFormed.{parents_stored}
use Rattle.tree.specs.Order.{before}
use Rattle.tree.specs.WellFormed.{keys_ascend}

-- the keys of a well-formed tree
pub record TreeKeys (d : ℕ) (keys : List ℕ) : Type 0 where
  pub axes : axes_known d ≡ true
  pub some : 0 < length keys
  pub ascend : keys_ascend d keys ≡ true
  pub parents : parents_stored d keys ≡ true

-- where the keys are valid and in order, r is the number of the first node that does not come before cell k, or the number of nodes
pub record FirstFrom (d : ℕ) (keys : List ℕ) (k r : ℕ) : Type 0 where
  pub within : r ≤ length keys
  pub splits : keys_ascend d keys ≡ true → level_of k ≤ 16 → (j : ℕ) → j < length keys → before d (get_or keys j 0) k ≡ ltb j r

-- a node with key k is found by its number; and where the keys are valid and in order, nothing is found only if none has it
abbrev pub FoundNode : ℕ → List ℕ → ℕ → Option ℕ → Type 0
FoundNode d keys k (Some i) = (i < length keys) × (get_or keys i 0 ≡ k)
FoundNode d keys k None = keys_ascend d keys ≡ true → stored keys k ≡ false
