-- Document 01: rows are flat key slices with N + 1 starts. How a row of each node is written, and read again.
use Rattle.std.specs.Prelude.{◌≡◌, List, [], ◌∷◌, ◌++◌, ℕ, zero, suc, ◌+◌, ◌-◌, min, length, get_or, take, drop}
use Rattle.slices.specs.Lists.{concat_map, Mem}
use Rattle.tree.specs.Nodes.{node_number}

-- where each node's row begins, the first at a, and where the last one ends
unfoldable pub starts_from : ℕ → (ℕ → List ℕ) → List ℕ → List ℕ
starts_from a row [] = a ∷ []
starts_from a row (k ∷ ks) = a ∷ starts_from (a + length (row k)) row ks

abbrev pub row_starts : (ℕ → List ℕ) → List ℕ → List ℕ
row_starts row keys = starts_from 0 row keys

-- the rows of the nodes, one after the other
abbrev pub row_keys : (ℕ → List ℕ) → List ℕ → List ℕ
row_keys row keys = concat_map row keys

-- of a key slice with so many entries at most 16,777,216 count
abbrev pub keys_room : ℕ → ℕ
keys_room len = min len 16777216

-- the row of node i in such columns
abbrev pub row_at : List ℕ → List ℕ → ℕ → List ℕ
row_at starts flat i = take (get_or starts (suc i) 0 - get_or starts i 0) (drop (get_or starts i 0) flat)

-- the row of the node with key k
abbrev pub row_of : List ℕ → List ℕ → List ℕ → ℕ → List ℕ
row_of keys starts flat k = row_at starts flat (node_number keys k)

-- what is read as the row of each node is its row
abbrev pub Gives : List ℕ → (row read : ℕ → List ℕ) → Type 0
Gives keys row read = (k : ℕ) → Mem k keys → read k ≡ row k

-- the columns hold the rows, and then anything
pub record Written (keys : List ℕ) (row : ℕ → List ℕ) (starts flat : List ℕ) : Type 0 where
  pub more : List ℕ
  pub rest : List ℕ
  pub starts_are : starts ≡ row_starts row keys ++ more
  pub keys_are : flat ≡ row_keys row keys ++ rest
