-- Near work node by node, by sums kept along the path to a node.
use Rattle.std.specs.Prelude.{◌≡◌, cond, List, map, ℕ, suc, ◌*◌, ◌≤◌, ◌<◌, length, get_or}
use Rattle.slices.specs.Lists.{filter, sum}
use Rattle.morton.specs.Keys.{level_of, parent}
use Rattle.tree.specs.Nodes.{cell_at, leaf, own_of}
use Rattle.tree.specs.WellFormed.{most_sources}
use Rattle.rows.specs.Lists.{u_row}
use Rattle.around.specs.Around.{owner}

-- the sources in a row: what its leaves own together
abbrev pub row_sources : List ℕ → List ℕ → List ℕ → ℕ
row_sources keys own row = sum (map (own_of keys own) row)

-- what the node with key b adds: its targets times sources in the U row, if it is a leaf; a column has the targets of each node
abbrev pub work_of : ℕ → List ℕ → List ℕ → List ℕ → ℕ → ℕ
work_of d keys own counts b = cond (leaf d keys b) (own_of keys counts b * row_sources keys own (u_row d keys own b)) 0

-- 1,048,576 targets, each with as many sources: 2 ^ 40
abbrev pub most_work : ℕ
most_work = 1099511627776

-- a column has an entry for each node, and those of the leaves are together at most 1,048,576
pub record Weights (d : ℕ) (keys counts : List ℕ) : Type 0 where
  pub long : length keys ≤ length counts
  pub few : sum (map (own_of keys counts) (filter (leaf d keys) keys)) ≤ most_sources

-- the sources owned by nodes of levels up to p's that are close to p
unfoldable pub kept_sources : ℕ → List ℕ → List ℕ → ℕ → ℕ
kept_sources d keys own p = sum (map (own_of keys own) (filter (owner d keys own p (suc (level_of p))) keys))

-- at each level of the path from the root to p stand the sources kept for the cell there
pub record PathSums (d : ℕ) (keys own : List ℕ) (p : ℕ) (sums : List ℕ) : Type 0 where
  pub room : 16 ≤ length sums
  pub at : (l : ℕ) → l ≤ level_of p → get_or sums l 0 ≡ kept_sources d keys own (cell_at d l p)

-- for node i, if there is such a node, on the path to its parent
abbrev pub SumsFor : ℕ → List ℕ → List ℕ → ℕ → List ℕ → Type 0
SumsFor d keys own i sums = i < length keys → PathSums d keys own (parent d (get_or keys i 0)) sums
