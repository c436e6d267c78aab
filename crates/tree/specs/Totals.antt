-- Document 02, order 3: a node's total, the number of sources in the cell and all below it. It is by key, and so the same in every order of the nodes.
use Rattle.std.specs.Prelude.{Bool, true, false, cond, List, [], ◌∷◌, map, ℕ}
use Rattle.slices.specs.Lists.{sum}
use Rattle.morton.specs.Keys.{under}
use Rattle.tree.specs.Nodes.{own_of}

unfoldable pub total_in : ℕ → List ℕ → List ℕ → ℕ → ℕ
total_in d keys own k = sum (map (λ j. cond (under d k j) (own_of keys own j) 0) keys)

-- one entry for each node
abbrev pub total_column : ℕ → List ℕ → List ℕ → List ℕ
total_column d keys own = map (total_in d keys own) keys
