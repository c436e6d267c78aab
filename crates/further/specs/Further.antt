-- Document 02, order 7: a tree built without targets, and what one further source leaves as it is.
-- A tree is the set of its cells here: the order of its keys does not matter. d is the number of axes.
use Rattle.std.specs.Prelude.{◌≡◌, Bool, true, cond, List, [], ◌∷◌, ◌++◌, ◌↔◌, ℕ, zero, suc, ◌≤◌}
use Rattle.slices.specs.Lists.{Mem, Distinct}
use Rattle.morton.specs.Keys.{deepest, level_of, parent, holds}
use Rattle.morton.specs.Anchors.{touching}
use Rattle.tree.specs.Nodes.{stored}
use Rattle.tree.specs.Leaves.{cell_of}
use Rattle.growth.specs.declared.Rule.{Rule}
use Rattle.growth.specs.Nodes.{nodes}
use Rattle.growth.specs.Columns.{own_column}

-- one further source, numbered after the last, by its level-16 code
abbrev pub further : List ℕ → ℕ → List ℕ
further sources code = sources ++ code ∷ []

-- keys are the cells of the tree that grows from these sources, each once, in any order; own is their column of own sources
pub record TreeOf (g : Rule) (sources keys own : List ℕ) : Type 0 where
  pub cells : (k : ℕ) → Mem k keys ↔ Mem k (nodes g sources [])
  pub distinct : Distinct keys
  pub owns : own ≡ own_column g.axes keys sources

-- the point's cell at the level of b's parent is that parent or touches it
abbrev pub beside_parent : ℕ → ℕ → ℕ → Bool
beside_parent d b code = touching d (parent d b) (cell_of d (level_of (parent d b)) code)

-- C is the deepest cell stored that holds the code
pub record DeepestHolder (d : ℕ) (keys : List ℕ) (code C : ℕ) : Type 0 where
  pub mem : Mem C keys
  pub holder : holds d C code ≡ true
  pub deepest : (k : ℕ) → Mem k keys → holds d k code ≡ true → level_of k ≤ level_of C

-- the first cell stored on the code's way up from level l; the root where there is no other
unfoldable pub holder_from : ℕ → ℕ → List ℕ → ℕ → ℕ
holder_from zero d keys code = 0
holder_from (suc l) d keys code = cond (stored keys (cell_of d (suc l) code)) (cell_of d (suc l) code) (holder_from l d keys code)

abbrev pub holder_of : ℕ → List ℕ → ℕ → ℕ
holder_of d keys code = holder_from deepest d keys code
