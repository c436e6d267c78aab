-- Document 01, "Lists, lookup, sourced cells": the U and V rows of a tree with the columns keys and own, over d axes.
use Rattle.std.specs.Prelude.{Bool, true, false, ◌&&◌, ◌||◌, not, cond, List, [], ◌∷◌, map, ℕ, zero, suc, ◌+◌, ◌*◌, ◌-◌, leb, ltb, eqb}
use Rattle.slices.specs.Lists.{filter, any, count, sum}
use Rattle.slices.specs.Order.{ascending}
use Rattle.morton.specs.Keys.{level_of, parent, ancestors}
use Rattle.morton.specs.Anchors.{touching}
use Rattle.tree.specs.Columns.{Columns}
use Rattle.tree.specs.Nodes.{cell_at, leaf, own_of, sourced}

-- s lies at or under b or a neighbour of b: its cell at b's level is b or touches it
abbrev pub at_or_under : ℕ → ℕ → ℕ → Bool
at_or_under d b s = leb (level_of b) (level_of s) && touching d b (cell_at d (level_of b) s)

-- s touches an ancestor of b at that ancestor's level
abbrev pub beside_ancestor : ℕ → ℕ → ℕ → Bool
beside_ancestor d b s = any (λ a. touching d a s) (ancestors d b)

-- j and k are neighbours: two cells that touch
abbrev pub neighbour : ℕ → ℕ → ℕ → Bool
neighbour d j k = touching d j k && not (eqb j k)

module _ (d : ℕ) (keys own : List ℕ) where
  -- U of a leaf: sourced leaves at or under itself and its neighbours, with sourced leaves touching an ancestor at that ancestor's level
  unfoldable pub in_u : ℕ → ℕ → Bool
  in_u b s = leaf d keys s && (sourced d keys own s && (at_or_under d b s || beside_ancestor d b s))

  -- ascending by whole key; the row of a node that is no leaf is empty
  unfoldable pub u_row : ℕ → List ℕ
  u_row b = cond (leaf d keys b) (ascending (filter (in_u b) keys)) []

  -- V of a cell: sourced children of its parent's neighbours that do not touch it.
  -- The parent is no neighbour of itself, here as in the Rust; its children all touch each other, so nothing would change if it were.
  unfoldable pub in_v : ℕ → ℕ → Bool
  in_v b c = (ltb 0 (level_of b) && ltb 0 (level_of c)) && (neighbour d (parent d b) (parent d c) && (sourced d keys own c && not (touching d b c)))

  unfoldable pub v_row : ℕ → List ℕ
  v_row b = ascending (filter (in_v b) keys)

  -- sourced cells are also listed by ascending key
  unfoldable pub sourced_cells : List ℕ
  sourced_cells = ascending (filter (sourced d keys own) keys)

  -- near work: the sum over leaves of looked-up targets times sources in the U row; `weigh` is how many targets a leaf has
  unfoldable pub near_work : (ℕ → ℕ) → ℕ
  near_work weigh = sum (map (λ b. weigh b * sum (map (own_of keys own) (u_row b))) (filter (leaf d keys) keys))

-- how many targets a leaf b has: marks are the keys of the targets' leaves
abbrev pub targets_at : List ℕ → ℕ → ℕ
targets_at marks b = count (λ k. eqb k b) marks

-- the rows of a tree that is handed in
abbrev pub u_rows : ℕ → Columns → ℕ → List ℕ
u_rows d t = u_row d t.keys t.own

abbrev pub v_rows : ℕ → Columns → ℕ → List ℕ
v_rows d t = v_row d t.keys t.own
