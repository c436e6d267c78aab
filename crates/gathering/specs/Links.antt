-- Keys gathered one by one, none twice, with links from a node to its children.
use Rattle.std.specs.Prelude.{◌≡◌, List, ℕ, suc, ◌≤◌, ◌<◌, length, get_or}
use Rattle.slices.specs.Lists.{Mem}
use Rattle.morton.specs.Keys.{level_of, parent, ancestors}

-- n nodes: the root, then each after its parent, no key twice. `child` has the last child of each, `next` the one before it with the same parent; 0 where there is none
pub record Linked (d n : ℕ) (key child next : List ℕ) : Type 0 where
  pub some : 0 < n
  pub keys : n ≤ length key
  pub childs : n ≤ length child
  pub nexts : n ≤ length next
  pub root : get_or key 0 0 ≡ 0
  pub levels : (q : ℕ) → 0 < q → q < n → 0 < level_of (get_or key q 0)
  pub parents : (q : ℕ) → 0 < q → q < n → (p : ℕ) × (p < q) × (get_or key p 0 ≡ parent d (get_or key q 0))
  pub once : (p q : ℕ) → p < n → q < n → get_or key p 0 ≡ get_or key q 0 → p ≡ q
  pub child_in : (p : ℕ) → p < n → get_or child p 0 < n
  pub its_child : (p : ℕ) → p < n → 0 < get_or child p 0 → parent d (get_or key (get_or child p 0) 0) ≡ get_or key p 0
  pub child_last : (p q : ℕ) → p < n → 0 < q → q < n → parent d (get_or key q 0) ≡ get_or key p 0 → q ≤ get_or child p 0
  pub next_in : (j : ℕ) → 0 < j → j < n → get_or next j 0 < j
  pub next_of : (j : ℕ) → 0 < j → j < n → 0 < get_or next j 0 → parent d (get_or key (get_or next j 0) 0) ≡ parent d (get_or key j 0)
  pub next_last : (j q : ℕ) → 0 < q → q < j → j < n → parent d (get_or key q 0) ≡ parent d (get_or key j 0) → q ≤ get_or next j 0

-- node p is the parent of cell k
pub record Below (d n : ℕ) (key : List ℕ) (p k : ℕ) : Type 0 where
  pub node : p < n
  pub up : parent d k ≡ get_or key p 0
  pub level : 0 < level_of k

-- no node has key k
abbrev pub Absent : ℕ → List ℕ → ℕ → Type 0
Absent n key k = (q : ℕ) → q < n → get_or key q 0 ≡ k → ⊥

-- some columns with so many nodes are linked, with p the parent of k
pub record Walkable (key child next : List ℕ) (p k : ℕ) : Type 0 where
  pub d : ℕ
  pub n : ℕ
  pub linked : Linked d n key child next
  pub below : Below d n key p k

-- what a search for k among the children of its parent answers: its number, or 0
pub record Searched (n : ℕ) (key : List ℕ) (k r : ℕ) : Type 0 where
  pub found : 0 < r → (r < n) × (get_or key r 0 ≡ k)
  pub none : r ≡ 0 → Absent n key k

-- one node more, with key k under node p
pub record OneMore (n p k : ℕ) (key child next key' child' next' : List ℕ) : Type 0 where
  pub keys : length key' ≡ length key
  pub childs : length child' ≡ length child
  pub nexts : length next' ≡ length next
  pub key_new : get_or key' n 0 ≡ k
  pub key_old : (q : ℕ) → q < n → get_or key' q 0 ≡ get_or key q 0
  pub child_new : get_or child' n 0 ≡ 0
  pub child_up : get_or child' p 0 ≡ n
  pub child_old : (q : ℕ) → q < n → (q ≡ p → ⊥) → get_or child' q 0 ≡ get_or child q 0
  pub next_new : get_or next' n 0 ≡ get_or child p 0
  pub next_old : (q : ℕ) → q < n → get_or next' q 0 ≡ get_or next q 0

-- so many entries of each column may be used
pub record Roomy (room n : ℕ) (key child next : List ℕ) : Type 0 where
  pub within : n ≤ room
  pub keys : room ≤ length key
  pub childs : room ≤ length child
  pub nexts : room ≤ length next

-- what looking for k under its parent, and putting it there if it is absent, leaves: r is its number, n if it was put or there was no room for it
pub record Stepped (d room n : ℕ) (key child next : List ℕ) (k : ℕ) (key' child' next' : List ℕ) (r : ℕ) : Type 0 where
  pub most : r ≤ n
  pub old : (q : ℕ) → q < n → get_or key' q 0 ≡ get_or key q 0
  pub found : r < n → Linked d n key' child' next' × (get_or key' r 0 ≡ k)
  pub put : r ≡ n → n < room → Linked d (suc n) key' child' next' × (get_or key' n 0 ≡ k)
  pub absent : r ≡ n → Absent n key' k
  pub full : r ≡ n → room ≤ n → Linked d n key' child' next'

-- what putting a key and its ancestors leaves: r nodes, or one more than there is room for
pub record PutAll (d room n k : ℕ) (key key' child' next' : List ℕ) (r : ℕ) : Type 0 where
  pub old : (q : ℕ) → q < n → get_or key' q 0 ≡ get_or key q 0
  pub fits : r ≤ room → (n ≤ r) × Linked d r key' child' next' × ((q : ℕ) → n ≤ q → q < r → Mem (get_or key' q 0) (ancestors d k)) × ((q : ℕ) × (q < r) × (get_or key' q 0 ≡ k))
  pub short : room < r → (r ≡ suc room) × (n ≤ room) × Linked d room key' child' next' × ((q : ℕ) → n ≤ q → q < room → Mem (get_or key' q 0) (ancestors d k))
      × ((c : ℕ) × Mem c (ancestors d k) × Absent room key' c)
