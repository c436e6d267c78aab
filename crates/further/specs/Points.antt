-- Document 02, order 7: the columns beside the keys of a tree of these sources, in any order of the nodes.
use Rattle.std.specs.Prelude.{◌≡◌, false, List, [], ◌↔◌, ℕ, ◌<◌, length, get_or, take}
use Rattle.slices.specs.Lists.{sum, Mem}
use Rattle.tree.specs.Nodes.{leaf}
use Rattle.points_right.specs.Points.{code_in, PointsRight}
use Rattle.growth.specs.declared.Rule.{Rule}
use Rattle.growth.specs.Nodes.{nodes}
use Rattle.growth.specs.Columns.{own_column, begin_column, order_column}

-- what a well-formed tree's columns beside the keys are: sources in leaves only, begins the running sums
pub record Beside (d : ℕ) (keys own begin : List ℕ) : Type 0 where
  pub owns : length own ≡ length keys
  pub begins : length begin ≡ length keys
  pub inner : (i : ℕ) → i < length keys → leaf d keys (get_or keys i 0) ≡ false → get_or own i 0 ≡ 0
  pub runs : (i : ℕ) → i < length keys → get_or begin i 0 ≡ sum (take i own)

-- the order column holds these sources, by their codes
abbrev pub SourcesRight : ℕ → (sources keys own begin order : List ℕ) → Type 0
SourcesRight d sources keys own begin order = PointsRight (length sources) (code_in d sources) keys own begin order

-- the columns are those of the build of these sources without targets, in the given order of the nodes
pub record BuildOf (g : Rule) (sources keys own begin order : List ℕ) : Type 0 where
  pub cells : (k : ℕ) → Mem k keys ↔ Mem k (nodes g sources [])
  pub owns : own ≡ own_column g.axes keys sources
  pub begins : begin ≡ begin_column own
  pub orders : order ≡ order_column g.axes keys sources
