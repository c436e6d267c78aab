-- Near work from a written U list, node by node. The sum itself is `near_work` in rows/specs/Lists.antt.
use Rattle.std.specs.Prelude.{◌≡◌, true, false, cond, List, ℕ, ◌<◌, eqb, Float, length, get_or}
use Rattle.morton.specs.Keys.{axes_known}
use Rattle.tree.specs.Nodes.{own_of}
use Rattle.tree.specs.WellFormed.{keys_ascend}
use Rattle.rows.specs.Lists.{targets_at}
use Rattle.links.specs.Links.{inner}
use Rattle.space.specs.declared.Box.{Box}
use Rattle.lookup.specs.Batch.{leaf_keys, codes_inside}

-- how many targets each leaf has: those that lookup finds there; without targets its own sources serve
unfoldable pub weights : Box → List ℕ → List ℕ → List Float → ℕ → ℕ
weights b keys own targets k = cond (eqb (length targets) 0) (own_of keys own k) (targets_at (leaf_keys b.axes keys (codes_inside b targets)) k)

-- the keys are in order, and what a node owns stands beside its key
pub record Beside (d : ℕ) (keys own : List ℕ) : Type 0 where
  pub axes : axes_known d ≡ true
  pub ordered : keys_ascend d keys ≡ true
  pub owns : length own ≡ length keys
  pub own_count : (i : ℕ) → i < length keys → own_of keys own (get_or keys i 0) ≡ get_or own i 0

-- a column has 0 for each node with children
abbrev pub LeavesOnly : List ℕ → List ℕ → Type 0
LeavesOnly keys counts = (j : ℕ) → inner keys j ≡ true → get_or counts j 0 ≡ 0

-- entries of nodes with children were cleared, and the others stay
pub record Cleared (keys old new : List ℕ) : Type 0 where
  pub same : length new ≡ length old
  pub none : LeavesOnly keys new
  pub rest : (j : ℕ) → inner keys j ≡ false → get_or new j 0 ≡ get_or old j 0
