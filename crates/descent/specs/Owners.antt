-- The nodes that own sources, and where they stand.
use Rattle.std.specs.Prelude.{Bool, ◌&&◌, List, ℕ, leb, ltb, get_or}
use Rattle.slices.specs.Lists.{any}
use Rattle.morton.specs.Keys.{under}
use Rattle.tree.specs.Nodes.{node_number, own_of}

-- node x owns sources
abbrev pub owns : List ℕ → List ℕ → ℕ → Bool
owns keys own x = ltb 0 (own_of keys own x)

-- node x owns sources, and lies at or under node i
abbrev pub owns_under : ℕ → List ℕ → List ℕ → ℕ → ℕ → Bool
owns_under d keys own i x = under d (get_or keys i 0) x && owns keys own x

-- node x owns sources, and is numbered from one number on, up to another
abbrev pub owns_within : List ℕ → List ℕ → ℕ → ℕ → ℕ → Bool
owns_within keys own from to x = (leb from (node_number keys x) && ltb (node_number keys x) to) && owns keys own x

-- node x owns sources, and lies at or under one of some nodes
abbrev pub owns_below : ℕ → List ℕ → List ℕ → List ℕ → ℕ → Bool
owns_below d keys own nodes x = any (λ j. under d (get_or keys j 0) x) nodes && owns keys own x
