-- Document 01, "How the tree grows", and order 10: a leaf's and any other cell's part of the order column.
use Rattle.std.specs.Prelude.{Bool, true, false, ◌&&◌, cond, List, [], ℕ, ◌+◌, ltb, leb, length, get_or, take, drop}

-- the number is in both columns, and begin plus count does not pass the order column's end
abbrev pub has_part : List ℕ → List ℕ → List ℕ → ℕ → Bool
has_part counts begin order node = (ltb node (length counts) && ltb node (length begin)) && leb (get_or begin node 0 + get_or counts node 0) (length order)

-- as many entries as a column of counts says of the node, from its begin on; else the part is empty
unfoldable pub leaf_sources : List ℕ → List ℕ → List ℕ → ℕ → List ℕ
leaf_sources counts begin order node = cond (has_part counts begin order node) (take (get_or counts node 0) (drop (get_or begin node 0) order)) []

-- a leaf's part goes by what it owns; a cell's, which has all sources in it, by its total
abbrev pub cell_sources : List ℕ → List ℕ → List ℕ → ℕ → List ℕ
cell_sources total begin order node = leaf_sources total begin order node
