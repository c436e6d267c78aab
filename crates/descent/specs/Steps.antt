-- What the steps are given: a node with children, the sourced children of a cell from one on, and several nodes with children.
use Rattle.std.specs.Prelude.{◌≡◌, true, List, ℕ, suc, ◌+◌, ◌≤◌, ◌<◌, length, get_or}
use Rattle.morton.specs.Keys.{level_of}
use Rattle.links.specs.Links.{next_of, inner, sourced_child, LinkedTree}

-- the keys and own sources of a tree over some number of axes
pub record OwnedTree (keys own : List ℕ) : Type 0 where
  pub axes : ℕ
  pub total : List ℕ
  pub links : List ℕ
  pub linked : LinkedTree axes keys own total links

-- node i has children, and so many levels below its own
pub record Parent (keys : List ℕ) (i left : ℕ) : Type 0 where
  pub inside : i < length keys
  pub children : inner keys i ≡ true
  pub levels : level_of (get_or keys i 0) + left ≡ 16

-- the sourced children of a cell from one number on, up to where the walk goes on after the cell; so many levels are below theirs
pub record Siblings (d : ℕ) (keys own total : List ℕ) (from to left : ℕ) : Type 0 where
  pub cell : ℕ
  pub inside : cell < length keys
  pub levels : level_of (get_or keys cell 0) + suc left ≡ 16
  pub end : to ≡ next_of keys total cell
  pub most : from ≤ to
  pub child : from < to → sourced_child d keys own cell from ≡ true

-- the first c numbers are those of nodes with children, each once, with so many levels below their own
pub record Parents (keys nodes : List ℕ) (c left : ℕ) : Type 0 where
  pub few : c ≤ length nodes
  pub apart : (i j : ℕ) → i < c → j < c → get_or nodes i 0 ≡ get_or nodes j 0 → i ≡ j
  pub each : (i : ℕ) → i < c → Parent keys (get_or nodes i 0) left
