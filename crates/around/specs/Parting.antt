-- What a child of a cell takes of the entries around the cell: the far keys, and the positions of the near entries, which are leaves or have children.
use Rattle.std.specs.Prelude.{◌≡◌, not, List, map, ℕ, ◌+◌, ◌-◌, ◌≤◌, ◌<◌, eqb, length, get_or, take, set}
use Rattle.slices.specs.Lists.{filter, range}
use Rattle.sourced.specs.Room.{Puts}
use Rattle.links.specs.Links.{inner}
use Rattle.around.specs.Masks.{bit_of}

-- the key of the entry at position i
abbrev pub key_of : List ℕ → List ℕ → ℕ → ℕ
key_of keys nodes i = get_or keys (get_or nodes i 0) 0

-- the positions below c that bit s marks: entries that touch child s
abbrev pub near_at : List ℕ → ℕ → ℕ → List ℕ
near_at masks c s = filter (λ i. bit_of (get_or masks i 0) s) (range 0 c)

-- and the others
abbrev pub far_at : List ℕ → ℕ → ℕ → List ℕ
far_at masks c s = filter (λ i. not (bit_of (get_or masks i 0) s)) (range 0 c)

-- the entries can be parted for child s
pub record Parting (keys nodes masks : List ℕ) (c s : ℕ) : Type 0 where
  pub fits : c ≤ length nodes
  pub room : length masks ≡ length nodes
  pub inside : (i : ℕ) → i < c → get_or nodes i 0 < length keys
  pub index : s < 64
  pub few : length (near_at masks c s) ≤ 27

-- the keys of the far entries were put into a slice, and the positions of the near ones, at most 27, into another
pub record Parts (keys nodes masks : List ℕ) (c s : ℕ) (far : List ℕ) (f : ℕ) (far' : List ℕ) (f' : ℕ) (near' : List ℕ) (t : ℕ) : Type 0 where
  pub puts : Puts far f (map (key_of keys nodes) (far_at masks c s)) far' f'
  pub fits : t ≤ length near'
  pub near : take t near' ≡ near_at masks c s
  pub few : t ≤ 27

-- the entry at position j can be stored past f far keys and t near positions
pub record Storable (keys nodes masks : List ℕ) (s j : ℕ) (far : List ℕ) (f : ℕ) (near : List ℕ) (t : ℕ) : Type 0 where
  pub entry : j < length nodes
  pub masked : j < length masks
  pub inside : get_or nodes j 0 < length keys
  pub index : s < 64
  pub room : f < length far
  pub more : t < length near

-- it was: its key and its position, of which one counts
pub record Stored (keys nodes masks : List ℕ) (s j : ℕ) (far : List ℕ) (f : ℕ) (far' : List ℕ) (f' : ℕ) (near : List ℕ) (t : ℕ) (near' : List ℕ) (t' : ℕ) : Type 0 where
  pub key : far' ≡ set far f (key_of keys nodes j)
  pub position : near' ≡ set near t j
  pub touches : ℕ
  pub few : touches < 2
  pub tells : eqb touches 1 ≡ bit_of (get_or masks j 0) s
  pub counted : f' ≡ f + (1 - touches)
  pub found : t' ≡ t + touches

-- the first t of `near` are positions of entries
pub record Positions (keys nodes places near : List ℕ) (t : ℕ) : Type 0 where
  pub fits : t ≤ length near
  pub few : t ≤ 27
  pub room : length places ≡ length nodes
  pub at : (i : ℕ) → i < t → get_or near i 0 < length nodes
  pub inside : (i : ℕ) → i < t → get_or nodes (get_or near i 0) 0 < length keys

-- those of some positions whose nodes have children
abbrev pub inner_at : List ℕ → List ℕ → List ℕ → List ℕ
inner_at keys nodes cells = filter (λ i. inner keys (get_or nodes i 0)) cells

-- and those whose nodes have none
abbrev pub leaves_at : List ℕ → List ℕ → List ℕ → List ℕ
leaves_at keys nodes cells = filter (λ i. not (inner keys (get_or nodes i 0))) cells

-- of the entries at some positions, the keys of those without children were put into a slice, and the numbers and places of the others into two
pub record Splits (keys nodes places cells owners : List ℕ) (o : ℕ) (owners' : List ℕ) (o' : ℕ) (listed spots : List ℕ) (c : ℕ) : Type 0 where
  pub puts : Puts owners o (map (key_of keys nodes) (leaves_at keys nodes cells)) owners' o'
  pub fits : c ≤ length listed
  pub room : c ≤ length spots
  pub numbers : take c listed ≡ map (λ i. get_or nodes i 0) (inner_at keys nodes cells)
  pub placed : take c spots ≡ map (λ i. get_or places i 0) (inner_at keys nodes cells)
