-- The stack: what lies around each cell on the path to a cell, level by level.
use Rattle.std.specs.Prelude.{◌≡◌, List, map, ℕ, ◌*◌, ◌-◌, ◌≤◌, ◌<◌, length, get_or, take, drop}
use Rattle.morton.specs.Keys.{level_of, parent, ValidKey}
use Rattle.tree.specs.Nodes.{cell_at}
use Rattle.places.specs.Places.{place_of}
use Rattle.around.specs.Around.{near_nodes, nodes_in, places_in, masks_in, FrameIn, Kept}
use Rattle.around.specs.Parting.{key_of, Parting, Parts, Positions, Splits}

-- the numbers of level l in the stack, which has 650 for each level: a frame, how many entries it has, and how far the owners kept with it reach
abbrev pub level_at : List ℕ → ℕ → List ℕ
level_at stack l = take 650 (drop (650 * l) stack)

abbrev pub count_in : List ℕ → ℕ
count_in layer = get_or layer 648 0

abbrev pub upto_in : List ℕ → ℕ
upto_in layer = get_or layer 649 0

-- the entries of a level can be parted for child s
abbrev pub PartingIn : List ℕ → List ℕ → ℕ → Type 0
PartingIn keys layer s = Parting keys (nodes_in layer) (masks_in layer) (count_in layer) s

-- they were
abbrev pub PartsIn : List ℕ → List ℕ → ℕ → List ℕ → ℕ → List ℕ → ℕ → List ℕ → ℕ → Type 0
PartsIn keys layer s far f far' f' near t = Parts keys (nodes_in layer) (masks_in layer) (count_in layer) s far f far' f' near t

-- some of them were split
abbrev pub SplitsIn : List ℕ → List ℕ → List ℕ → List ℕ → ℕ → List ℕ → ℕ → List ℕ → List ℕ → ℕ → Type 0
SplitsIn keys layer cells owners o owners' o' listed spots c = Splits keys (nodes_in layer) (places_in layer) cells owners o owners' o' listed spots c

-- the numbers of a level are for the cell p: its frame, and the owners kept for it
pub record Layer (d : ℕ) (keys own : List ℕ) (p : ℕ) (layer held : List ℕ) : Type 0 where
  pub frame : FrameIn d keys own p layer (count_in layer)
  pub kept : Kept d keys own p held (upto_in layer)

-- what stands at each level of the path from the root to p
pub record Stack (d : ℕ) (keys own : List ℕ) (p : ℕ) (stack held : List ℕ) : Type 0 where
  pub valid : ValidKey d p
  pub level : level_of p < 16
  pub room : 10400 ≤ length stack
  pub owners : 432 ≤ length held
  pub layers : (l : ℕ) → l ≤ level_of p → Layer d keys own (cell_at d l p) (level_at stack l) held
  pub grows : (j l : ℕ) → j ≤ l → l ≤ level_of p → upto_in (level_at stack j) ≤ upto_in (level_at stack l)

-- what the rows of node i are taken from, if there is such a node: the path to its parent
abbrev pub Ready : ℕ → List ℕ → List ℕ → ℕ → List ℕ → List ℕ → Type 0
Ready d keys own i stack held = i < length keys → Stack d keys own (parent d (get_or keys i 0)) stack held

-- the node after the root can follow, whatever the owners' slice holds
abbrev pub Begun : ℕ → List ℕ → List ℕ → List ℕ → Type 0
Begun d keys own stack = (held : List ℕ) → 432 ≤ length held → Ready d keys own 1 stack held

-- at level l stand the frame of p and how far the owners reach, and the levels above it are as they were
pub record Framed (d : ℕ) (keys own : List ℕ) (p l : ℕ) (stack stack' : List ℕ) (n : ℕ) : Type 0 where
  pub frame : FrameIn d keys own p (level_at stack' l) (count_in (level_at stack' l))
  pub upto : upto_in (level_at stack' l) ≡ n
  pub above : (j : ℕ) → j < l → level_at stack' j ≡ level_at stack j

-- the first t of `near` are the positions, among the entries of a frame, of the nodes near q
pub record NearFound (d : ℕ) (keys own : List ℕ) (q : ℕ) (nodes places near : List ℕ) (t : ℕ) : Type 0 where
  pub positions : Positions keys nodes places near t
  pub are : map (λ i. get_or nodes i 0) (take t near) ≡ near_nodes d keys own q
  pub placed : (i : ℕ) → i < t → get_or places (get_or near i 0) 0 ≡ place_of d (key_of keys nodes (get_or near i 0))

-- of the nodes near q, among the entries of a level
abbrev pub NearIn : ℕ → List ℕ → List ℕ → ℕ → List ℕ → List ℕ → ℕ → Type 0
NearIn d keys own q layer near t = NearFound d keys own q (nodes_in layer) (places_in layer) near t

-- and of those near node i, in its parent's frame
abbrev pub NearNode : ℕ → List ℕ → List ℕ → ℕ → List ℕ → List ℕ → ℕ → Type 0
NearNode d keys own i stack near t = NearIn d keys own (get_or keys i 0) (level_at stack (level_of (get_or keys i 0) - 1)) near t
