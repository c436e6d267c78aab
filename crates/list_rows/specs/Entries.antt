-- One entry of a row handed in: where its node is found, and the test of the row that it must pass.
use Rattle.std.specs.Prelude.{◌≡◌, Bool, true, false, ◌||◌, cond, List, ℕ, ◌-◌, ◌<◌, eqb, ltb, length, get_or, None, Option, Some}
use Rattle.slices.specs.Lists.{Mem}
use Rattle.morton.specs.Keys.{level_of, parent}
use Rattle.tree.specs.Nodes.{stored}
use Rattle.tree.specs.WellFormed.{SoundTree, totals_right}
use Rattle.rows.specs.Lists.{in_u, in_v}
use Rattle.places.specs.Places.{place_of}
use Rattle.list_rows.specs.declared.Spot.{Spot}
use Rattle.list_rows.specs.declared.Row.{Row}

-- a tree that has passed its check, with its totals
pub record Counted (d : ℕ) (keys own total : List ℕ) : Type 0 where
  pub tree : SoundTree d keys own
  pub totals : totals_right d keys own total ≡ true

-- what was found before: in each slot a number and, if it is a node's, the node's place
pub record Table (d : ℕ) (keys nodes spots : List ℕ) : Type 0 where
  pub nodes_size : length nodes ≡ 4096
  pub spots_size : length spots ≡ 4096
  pub right : (s : ℕ) → s < 4096 → get_or nodes s 0 < length keys → get_or spots s 0 ≡ place_of d (get_or keys (get_or nodes s 0) 0)

-- the node with key k is found by its number and its place, and nothing is found only if none has it
abbrev pub Sought : ℕ → List ℕ → ℕ → Option Spot → Type 0
Sought d keys k (Some s) = (s.node < length keys) × (get_or keys s.node 0 ≡ k) × (s.place ≡ place_of d k)
Sought d keys k None = stored keys k ≡ false

-- x stands in b's row: its V row if `far`, else its U row
abbrev pub takes : ℕ → (keys own : List ℕ) → Bool → ℕ → ℕ → Bool
takes d keys own far b x = cond far (in_v d keys own b x) (in_u d keys own b x)

-- a cell whose row is judged is a node below the root, with its place and its parent's
pub record Cell (d : ℕ) (keys : List ℕ) (row : Row) : Type 0 where
  pub node : Mem row.cell keys
  pub deep : 0 < level_of row.cell
  pub place : row.place ≡ place_of d row.cell
  pub above : row.above ≡ place_of d (parent d row.cell)

-- an entry is a node, with its place
pub record Node (d : ℕ) (keys : List ℕ) (node place : ℕ) : Type 0 where
  pub within : node < length keys
  pub is : place ≡ place_of d (get_or keys node 0)

-- no entry before place i is not below the one at i
abbrev pub rises_at : List ℕ → ℕ → Bool
rises_at row i = eqb i 0 || ltb (get_or row (i - 1) 0) (get_or row i 0)
