-- Document 01, "Lists, lookup, sourced cells": lookup starts at the depth and climbs to a leaf, whose key it answers.
-- A point inside the box is its level-16 code. The depth is that of Z order, the greatest level.
use Rattle.std.specs.Prelude.{Bool, true, false, cond, List, ℕ, zero, suc, ◌-◌, ltb, None, Option, Some}
use Rattle.morton.specs.Keys.{deepest, key, above}
use Rattle.tree.specs.Nodes.{node_number, leaf}
use Rattle.tree.specs.Order.{depth_of}

-- the cell at level l that holds the code
abbrev pub cell_of : ℕ → ℕ → ℕ → ℕ
cell_of d l code = key l (above d (deepest - l) code)

-- the level of the first leaf on the way up from level l; 0, the level of the root, which is no leaf, where there is none
unfoldable pub climbed : ℕ → List ℕ → ℕ → ℕ → ℕ
climbed d keys code zero = 0
climbed d keys code (suc l) = cond (leaf d keys (cell_of d (suc l) code)) (suc l) (climbed d keys code l)

abbrev pub leaf_level : ℕ → List ℕ → ℕ → ℕ
leaf_level d keys code = climbed d keys code (depth_of keys)

-- a leaf holds the code
abbrev pub held : ℕ → List ℕ → ℕ → Bool
held d keys code = ltb 0 (leaf_level d keys code)

-- that leaf's key
abbrev pub leaf_key : ℕ → List ℕ → ℕ → ℕ
leaf_key d keys code = cell_of d (leaf_level d keys code) code

-- and its number
abbrev pub leaf_number : ℕ → List ℕ → ℕ → ℕ
leaf_number d keys code = node_number keys (leaf_key d keys code)

-- the steps: the depth less the leaf's level
abbrev pub steps_to : ℕ → List ℕ → ℕ → ℕ
steps_to d keys code = depth_of keys - leaf_level d keys code

abbrev pub found_if : Bool → ℕ → Option ℕ
found_if true node = Some node
found_if false node = None

-- the number of the leaf that holds the code, or nothing
abbrev pub leaf_of : ℕ → List ℕ → ℕ → Option ℕ
leaf_of d keys code = found_if (held d keys code) (leaf_number d keys code)
