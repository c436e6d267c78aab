-- What the listing printed of a tree whose nodes stood by level: one line a node, in the order of its numbers. No promise speaks of it: it serves the theorem that the text is what it was.
use Rattle.std.specs.Prelude.{List, ◌++◌, ℕ, length, get_or}
use Rattle.slices.specs.Lists.{range, concat_map}
use Rattle.tree.specs.ByLevel.{depth_by_level}
use Rattle.rows.specs.Lists.{u_row, v_row, near_work}
use Rattle.text.specs.Listing.{first_line, node_line}

abbrev pub listing_by_level : (key own : List ℕ) (u v : ℕ → List ℕ) → ℕ → ℕ → ℕ → ℕ → List ℕ
listing_by_level key own u v axes depth sources work = first_line axes (length key) depth sources work ++ concat_map (λ i. node_line key own u v i i) (range 0 (length key))

-- with the tree's own rows, depth and near work
abbrev pub tree_listing_by_level : ℕ → List ℕ → List ℕ → ℕ → (ℕ → ℕ) → List ℕ
tree_listing_by_level d keys own sources weigh =
    listing_by_level keys own (λ i. u_row d keys own (get_or keys i 0)) (λ i. v_row d keys own (get_or keys i 0)) d (depth_by_level keys) sources (near_work d keys own weigh)
