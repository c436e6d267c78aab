-- Document 02, order 7: the one cell of a tree built without targets in which one further source changes what is stored.
use Rattle.std.specs.Prelude.{◌≡◌, true, List, [], ℕ, suc, ◌≤◌, ◌<◌, ltb, length, get_or}
use Rattle.slices.specs.Lists.{Mem}
use Rattle.morton.specs.Keys.{level_of, ValidKey, parent, under, holds}
use Rattle.tree.specs.Order.{before}
use Rattle.growth.specs.declared.Rule.{Rule}
use Rattle.growth.specs.Nodes.{splits, nodes}

-- the cell holds the new source, its parent was split, and no node but itself was stored in it
pub record Gap (g : Rule) (s : List ℕ) (code cell : ℕ) : Type 0 where
  pub good : ValidKey g.axes cell
  pub deep : 0 < level_of cell
  pub holder : holds g.axes cell code ≡ true
  pub parted : splits g s [] (parent g.axes cell) ≡ true
  pub lowest : (k : ℕ) → Mem k (nodes g s []) → under g.axes cell k ≡ true → k ≡ cell

-- the nodes before the cell are those up to `from`, and those after it begin at `to`
pub record Cut (d : ℕ) (keys : List ℕ) (cell from to : ℕ) : Type 0 where
  pub order : (j : ℕ) → j < length keys → before d (get_or keys j 0) cell ≡ ltb j from
  pub behind : (j : ℕ) → j < length keys → to ≤ j → get_or keys j 0 ≡ cell → ⊥
  pub at : (j : ℕ) → j < length keys → from ≤ j → j < to → get_or keys j 0 ≡ cell
  pub rises : from ≤ to
  pub short : to ≤ suc from
  pub within : to ≤ length keys
