-- Document 02, order 7: when the cells of a tree are those of the build of these sources, without targets, asked of each cell by itself.
use Rattle.std.specs.Prelude.{◌≡◌, Bool, true, false, ◌&&◌, ◌||◌, List, ℕ, ◌<◌, ltb, length}
use Rattle.slices.specs.Lists.{Mem}
use Rattle.morton.specs.Keys.{deepest, level_of, ValidKey, parent, holds}
use Rattle.refine.specs.Counts.{sources_in}
use Rattle.tree.specs.Nodes.{leaf}
use Rattle.full.specs.Full.{has_children, Full}
use Rattle.growth.specs.declared.Rule.{Rule}

-- valid keys, the root among them, and with each other cell its parent
pub record Tree (d : ℕ) (keys : List ℕ) : Type 0 where
  pub sound : (k : ℕ) → Mem k keys → ValidKey d k
  pub root : Mem 0 keys
  pub parents : (k : ℕ) → Mem k keys → 0 < level_of k → Mem (parent d k) keys

-- each source is held by a leaf
abbrev pub InLeaves : ℕ → List ℕ → List ℕ → Type 0
InLeaves d sources keys = (c : ℕ) → Mem c sources → (k : ℕ) × (leaf d keys k ≡ true) × (holds d k c ≡ true)

module _ (g : Rule) (sources : List ℕ) where
  -- the root has children unless empty cells are not kept and there are no sources
  abbrev pub root_has : Bool
  root_has = g.keep || ltb 0 (length sources)

  -- another cell has children if it is above level 16 and its sources pass the limit
  abbrev pub may_have : ℕ → Bool
  may_have k = ltb (level_of k) deepest && ltb g.limit (sources_in g.axes sources k)

  pub record GrownRight (keys : List ℕ) : Type 0 where
    pub root : has_children g.axes keys 0 ≡ root_has
    pub inner : (k : ℕ) → Mem k keys → 0 < level_of k → has_children g.axes keys k ≡ may_have k
    -- without the keep-empty flag every cell but the root holds a source; with it each cell with children has all 2^d
    pub sourced : g.keep ≡ false → (k : ℕ) → Mem k keys → 0 < level_of k → 0 < sources_in g.axes sources k
    pub all : g.keep ≡ true → Full g.axes keys
