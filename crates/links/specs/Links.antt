-- Where the walk along a tree in Z order goes on after a node, and one column beside the tree that tells it of nodes with children.
use Rattle.std.specs.Prelude.{◌≡◌, Bool, true, false, ◌&&◌, cond, List, [], ◌∷◌, ℕ, suc, ◌+◌, ◌≤◌, ◌<◌, ltb, length, get_or, drop}
use Rattle.slices.specs.Lists.{filter, range}
use Rattle.morton.specs.Keys.{level_of}
use Rattle.tree.specs.Nodes.{child_of, sourced}
use Rattle.tree.specs.WellFormed.{totals_right}
use Rattle.tree.specs.Order.{end_of}
use Rattle.tree.specs.WellFormed.{SoundTree}

-- how many from the first on are 0
unfoldable pub zeros : List ℕ → ℕ
zeros [] = 0
zeros (n ∷ ns) = cond (ltb 0 n) 0 (suc (zeros ns))

-- the first sourced node after all that lies under node i, or the number of nodes
unfoldable pub next_of : List ℕ → List ℕ → ℕ → ℕ
unfolding zeros
next_of keys total i = end_of keys i + zeros (drop (end_of keys i) total)

-- the next row is deeper
abbrev pub inner : List ℕ → ℕ → Bool
inner keys i = ltb (suc i) (length keys) && ltb (level_of (get_or keys i 0)) (level_of (get_or keys (suc i) 0))

-- the node after node i if it is sourced, else the first sourced one after all that lies under that
unfoldable pub after_of : List ℕ → List ℕ → ℕ → ℕ
unfolding next_of
after_of keys total i = cond (ltb 0 (get_or total (suc i) 0)) (suc i) (next_of keys total (suc i))

-- node j is a sourced child of node i
abbrev pub sourced_child : ℕ → List ℕ → List ℕ → ℕ → ℕ → Bool
sourced_child d keys own i j = child_of d (get_or keys i 0) (get_or keys j 0) && sourced d keys own (get_or keys j 0)

-- the numbers of node i's sourced children, ascending
abbrev pub sourced_children : ℕ → List ℕ → List ℕ → ℕ → List ℕ
sourced_children d keys own i = filter (sourced_child d keys own i) (range 0 (length keys))

-- what holds a sourced node is sourced
pub record Linked (keys total : List ℕ) : Type 0 where
  pub totals : length total ≡ length keys
  pub up : (j n : ℕ) → j < n → n < end_of keys j → n < length keys → 0 < get_or total n 0 → 0 < get_or total j 0

-- the links of nodes with children are right from node i on
pub record From (keys total links : List ℕ) (i : ℕ) : Type 0 where
  pub linked : Linked keys total
  pub room : length keys ≤ length links
  pub right : (j : ℕ) → i ≤ j → inner keys j ≡ true → get_or links j 0 ≡ next_of keys total j

-- the link of each node with children; at leaves and past the nodes what stood there
pub record Links (keys total old links : List ℕ) : Type 0 where
  pub long : length links ≡ length old
  pub right : (j : ℕ) → inner keys j ≡ true → get_or links j 0 ≡ next_of keys total j
  pub rest : (j : ℕ) → inner keys j ≡ false → get_or links j 0 ≡ get_or old j 0

-- a sound tree with its totals, and a column in which the link of each node with children is right; what stands at leaves is the caller's
pub record LinkedTree (d : ℕ) (keys own total links : List ℕ) : Type 0 where
  pub tree : SoundTree d keys own
  pub totals : totals_right d keys own total ≡ true
  pub room : length keys ≤ length links
  pub right : (j : ℕ) → inner keys j ≡ true → get_or links j 0 ≡ next_of keys total j

-- the same, whatever its nodes own
abbrev pub Walkable : ℕ → List ℕ → List ℕ → List ℕ → Type 0
Walkable d keys total links = (own : List ℕ) × LinkedTree d keys own total links
