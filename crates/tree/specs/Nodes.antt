-- Document 01, "How the tree grows" and "Lists, lookup, sourced cells": the nodes of a tree.
-- d is the number of axes; keys and own are the tree's columns, with one entry for each node.
use Rattle.std.specs.Prelude.{Bool, true, false, ◌&&◌, not, cond, List, [], ◌∷◌, ℕ, zero, suc, ◌-◌, ltb, eqb}
use Rattle.slices.specs.Lists.{any}
use Rattle.morton.specs.Keys.{key, level_of, code_of, above, parent, under}

-- the cell at level l that holds cell k
abbrev pub cell_at : ℕ → ℕ → ℕ → ℕ
cell_at d l k = key l (above d (level_of k - l) (code_of k))

-- k is the key of a node
abbrev pub stored : List ℕ → ℕ → Bool
stored keys k = any (eqb k) keys

-- the number of the first node with key k, the number of nodes if there is none
unfoldable pub node_number : List ℕ → ℕ → ℕ
node_number [] k = 0
node_number (x ∷ xs) k = cond (eqb x k) 0 (suc (node_number xs k))

-- j has a parent, which is k: each cell but the root, at level 0, has one
abbrev pub child_of : ℕ → ℕ → ℕ → Bool
child_of d k j = ltb 0 (level_of j) && eqb (parent d j) k

-- a leaf is a node other than the root with no child
unfoldable pub leaf : ℕ → List ℕ → ℕ → Bool
leaf d keys k = stored keys k && (not (eqb k 0) && not (any (child_of d k) keys))

-- what the node with key k owns, 0 if there is none
unfoldable pub own_of : List ℕ → List ℕ → ℕ → ℕ
own_of [] own k = 0
own_of (x ∷ xs) [] k = 0
own_of (x ∷ xs) (n ∷ own) k = cond (eqb x k) n (own_of xs own k)

-- a cell is sourced if it or a descendant owns sources
unfoldable pub sourced : ℕ → List ℕ → List ℕ → ℕ → Bool
sourced d keys own k = any (λ j. under d k j && ltb 0 (own_of keys own j)) keys
