-- What lies around a cell: the nodes one level below it whose parents are near it, gathered once for all its children.
use Rattle.std.specs.Prelude.{◌≡◌, Bool, true, ◌&&◌, List, ℕ, suc, ◌+◌, ◌*◌, ◌/◌, ◌^◌, ◌≤◌, ◌<◌, ltb, eqb, length, get_or, take, drop}
use Rattle.slices.specs.Lists.{count, filter, range}
use Rattle.morton.specs.Keys.{level_of, code_of, ValidKey}
use Rattle.morton.specs.Anchors.{near, close}
use Rattle.tree.specs.Nodes.{own_of, sourced}
use Rattle.links.specs.Links.{inner, sourced_children}
use Rattle.places.specs.Places.{step_of, place_of, beside}
use Rattle.around.specs.Masks.{bit_of}

-- x is a sourced node one level below p, and its parent is p or touches it
abbrev pub around : ℕ → List ℕ → List ℕ → ℕ → ℕ → Bool
around d keys own p x = eqb (level_of x) (suc (level_of p)) && (near d d (level_of p) (code_of p) (code_of x / 2 ^ d) && sourced d keys own x)

-- x is a sourced node of q's level, and is q or touches it
abbrev pub near_to : ℕ → List ℕ → List ℕ → ℕ → ℕ → Bool
near_to d keys own q x = eqb (level_of x) (level_of q) && (near d d (level_of q) (code_of q) (code_of x) && sourced d keys own x)

-- x owns sources, is close to b, and its level is below `stop`
abbrev pub owner : ℕ → List ℕ → List ℕ → ℕ → ℕ → ℕ → Bool
owner d keys own b stop x = ltb 0 (own_of keys own x) && (close d b x && ltb (level_of x) stop)

-- the numbers of the nodes around p, ascending
abbrev pub around_nodes : ℕ → List ℕ → List ℕ → ℕ → List ℕ
around_nodes d keys own p = filter (λ j. around d keys own p (get_or keys j 0)) (range 0 (length keys))

-- of those near q
abbrev pub near_nodes : ℕ → List ℕ → List ℕ → ℕ → List ℕ
near_nodes d keys own q = filter (λ j. near_to d keys own q (get_or keys j 0)) (range 0 (length keys))

-- and of those near q that have children
abbrev pub near_inner : ℕ → List ℕ → List ℕ → ℕ → List ℕ
near_inner d keys own q = filter (λ j. near_to d keys own q (get_or keys j 0) && inner keys j) (range 0 (length keys))

-- node j touches the cell with the place `spot`, which is of its level
abbrev pub touches : ℕ → List ℕ → ℕ → ℕ → Bool
touches d keys spot j = beside (place_of d (get_or keys j 0)) spot 0

-- the first n entries of three slices are for some nodes: their numbers, their places, and masks of the children that they touch of the cell with the place `spot`
pub record Entries (d : ℕ) (keys : List ℕ) (spot : ℕ) (cells nodes places masks : List ℕ) (n : ℕ) : Type 0 where
  pub fits : n ≤ length nodes
  pub places_room : length places ≡ length nodes
  pub masks_room : length masks ≡ length nodes
  pub numbers : take n nodes ≡ cells
  pub placed : (i : ℕ) → i < n → get_or places i 0 ≡ place_of d (get_or keys (get_or nodes i 0) 0)
  pub masked : (i s : ℕ) → i < n → s < 8 → bit_of (get_or masks i 0) s ≡ touches d keys (step_of s + 2 * spot) (get_or nodes i 0)

-- the entries of all that is around p
pub record Frame (d : ℕ) (keys own : List ℕ) (p : ℕ) (nodes places masks : List ℕ) (c : ℕ) : Type 0 where
  pub entries : Entries d keys (place_of d p) (around_nodes d keys own p) nodes places masks c
  pub few : c ≤ 216

-- the parts of a frame in one slice: the numbers of 216 nodes, their places, and their masks
abbrev pub nodes_in : List ℕ → List ℕ
nodes_in frame = take 216 frame

abbrev pub places_in : List ℕ → List ℕ
places_in frame = take 216 (drop 216 frame)

abbrev pub masks_in : List ℕ → List ℕ
masks_in frame = take 216 (drop 432 frame)

-- entries in it, and all of them
abbrev pub EntriesIn : ℕ → List ℕ → ℕ → List ℕ → List ℕ → ℕ → Type 0
EntriesIn d keys spot cells frame n = Entries d keys spot cells (nodes_in frame) (places_in frame) (masks_in frame) n

abbrev pub FrameIn : ℕ → List ℕ → List ℕ → ℕ → List ℕ → ℕ → Type 0
FrameIn d keys own p frame c = Frame d keys own p (nodes_in frame) (places_in frame) (masks_in frame) c

-- the nodes near p that have children, by number, and beside them their places
pub record NearListed (d : ℕ) (keys own : List ℕ) (p : ℕ) (listed spots : List ℕ) (c : ℕ) : Type 0 where
  pub fits : c ≤ length listed
  pub room : c ≤ length spots
  pub numbers : take c listed ≡ near_inner d keys own p
  pub placed : (i : ℕ) → i < c → get_or spots i 0 ≡ place_of d (get_or keys (get_or listed i 0) 0)

-- the node is near a cell with the place `spot`, and `up` is its own place
pub record Beside (d : ℕ) (keys : List ℕ) (node up spot : ℕ) : Type 0 where
  pub cell : ℕ
  pub valid : ValidKey d cell
  pub spotted : spot ≡ place_of d cell
  pub inside : node < length keys
  pub level : level_of (get_or keys node 0) ≡ level_of cell
  pub close : near d d (level_of cell) (code_of cell) (code_of (get_or keys node 0)) ≡ true
  pub placed : up ≡ place_of d (get_or keys node 0)

-- the first n of `held` are the keys of the owners of levels up to p's that are close to p
pub record Kept (d : ℕ) (keys own : List ℕ) (p : ℕ) (held : List ℕ) (n : ℕ) : Type 0 where
  pub fits : n ≤ length held
  pub those : (x : ℕ) → count (λ c. eqb c x) (take n held) ≡ count (λ c. eqb c x) (filter (owner d keys own p (suc (level_of p))) keys)
