-- Document 01, "How the tree grows": the columns beside the keys of a tree over d axes, from its sources' level-16 codes.
use Rattle.std.specs.Prelude.{Bool, true, false, cond, List, [], ◌∷◌, map, ℕ, length, get_or, take}
use Rattle.slices.specs.Lists.{filter, range, concat_map, sum}
use Rattle.morton.specs.Keys.{holds}
use Rattle.tree.specs.Nodes.{leaf}
use Rattle.refine.specs.Counts.{sources_in}

-- own sources: leaves only, else 0
unfoldable pub own_column : ℕ → List ℕ → List ℕ → List ℕ
own_column d keys sources = map (λ k. cond (leaf d keys k) (sources_in d sources k) 0) keys

-- begin: the sum of own sources of all lower numbers
unfoldable pub begin_column : List ℕ → List ℕ
begin_column own = map (λ i. sum (take i own)) (range 0 (length own))

-- the indices of the sources in a cell, ascending
unfoldable pub indices_in : ℕ → List ℕ → ℕ → List ℕ
indices_in d sources k = filter (λ i. holds d k (get_or sources i 0)) (range 0 (length sources))

-- source indices leaf by leaf in node number, ascending within a leaf
unfoldable pub order_column : ℕ → List ℕ → List ℕ → List ℕ
order_column d keys sources = concat_map (indices_in d sources) (filter (leaf d keys) keys)
