-- Document 02, order 7: when a tree is grown by the rule, asked of each node and its total.
use Rattle.std.specs.Prelude.{◌≡◌, Bool, true, ◌&&◌, ◌||◌, List, ℕ, ◌<◌, ltb, length, get_or}
use Rattle.morton.specs.Keys.{deepest, level_of}
use Rattle.full.specs.Full.{has_children, Full}
use Rattle.growth.specs.declared.Rule.{Rule}

module _ (g : Rule) where
  -- a cell with n sources is stored
  abbrev pub kept_by : ℕ → Bool
  kept_by n = g.keep || ltb 0 n

  -- a cell other than the root, with n sources, has children
  abbrev pub splits_by : ℕ → ℕ → Bool
  splits_by k n = ltb (level_of k) deepest && ltb g.limit n

  -- each node other than the root is stored and split so
  pub record Inner (keys total : List ℕ) : Type 0 where
    pub stored : (i : ℕ) → 0 < i → i < length keys → kept_by (get_or total i 0) ≡ true
    pub splits : (i : ℕ) → 0 < i → i < length keys → has_children g.axes keys (get_or keys i 0) ≡ splits_by (get_or keys i 0) (get_or total i 0)

  -- the root has children where cells are stored; and where empty cells are, each cell with children has all
  pub record Grown (keys total : List ℕ) : Type 0 where
    pub root : has_children g.axes keys 0 ≡ kept_by (get_or total 0 0)
    pub inner : Inner keys total
    pub all : g.keep ≡ true → Full g.axes keys
