-- When rows handed in are the rows of a tree, judged with no room: no row is made again.
-- u and v give each node's row by its key, whoever wrote them.
use Rattle.std.specs.Prelude.{◌≡◌, Bool, true, false, ◌&&◌, List, [], ◌∷◌, map, ℕ, suc, ◌+◌, ◌≤◌, ◌<◌, eqb, length, get_or}
use Rattle.slices.specs.Lists.{sum, Mem}
use Rattle.morton.specs.Keys.{ancestors}
use Rattle.tree.specs.Nodes.{leaf, own_of}
use Rattle.rows.specs.Lists.{in_u, in_v, u_row, v_row}
use Rattle.rows.specs.Written.{row_starts, row_keys}
use Rattle.tree.specs.Totals.{total_in}

-- strictly ascending
abbrev pub Strict : List ℕ → Type 0
Strict xs = (i : ℕ) → suc i < length xs → get_or xs i 0 < get_or xs (suc i) 0

-- how many sources leaf b meets: what the leaves of its U row own, and the totals of the cells in the V rows of itself and its ancestors
abbrev pub sources_met : ℕ → List ℕ → List ℕ → (u v : ℕ → List ℕ) → ℕ → ℕ
sources_met d keys own u v b = sum (map (own_of keys own) (u b)) + sum (map (λ a. sum (map (total_in d keys own) (v a))) (ancestors d b))

-- the starts of the rows: one more than there are nodes, from 0 to the number of list keys, and none below the one before it
pub record StartsRight (keys starts flat : List ℕ) : Type 0 where
  pub entries : length starts ≡ suc (length keys)
  pub first : get_or starts 0 0 ≡ 0
  pub rises : (i : ℕ) → i < length keys → get_or starts i 0 ≤ get_or starts (suc i) 0
  pub last : get_or starts (length keys) 0 ≡ length flat

-- each row is strictly ascending, each entry is a node's key and passes the row's test, and a node that is no leaf has no U row
pub record ListsPass (d : ℕ) (keys own : List ℕ) (u v : ℕ → List ℕ) : Type 0 where
  pub u_ascends : (k : ℕ) → Mem k keys → Strict (u k)
  pub v_ascends : (k : ℕ) → Mem k keys → Strict (v k)
  pub u_inner : (k : ℕ) → Mem k keys → leaf d keys k ≡ false → u k ≡ []
  pub u_passes : (k s : ℕ) → Mem k keys → Mem s (u k) → Mem s keys × (in_u d keys own k s ≡ true)
  pub v_passes : (k c : ℕ) → Mem k keys → Mem c (v k) → Mem c keys × (in_v d keys own k c ≡ true)

-- and each leaf meets as many sources as there are
pub record ListsRight (d : ℕ) (keys own : List ℕ) (u v : ℕ → List ℕ) : Type 0 where
  pub passing : ListsPass d keys own u v
  pub adds : (b : ℕ) → Mem b keys → leaf d keys b ≡ true → sources_met d keys own u v b ≡ sum own

-- what the checks find out: the columns hold the tree's rows and nothing else
pub record Flat (d : ℕ) (keys own us uk vs vk : List ℕ) : Type 0 where
  pub u_starts : us ≡ row_starts (u_row d keys own) keys
  pub u_keys : uk ≡ row_keys (u_row d keys own) keys
  pub v_starts : vs ≡ row_starts (v_row d keys own) keys
  pub v_keys : vk ≡ row_keys (v_row d keys own) keys

-- the same as a test
unfoldable pub same : List ℕ → List ℕ → Bool
same [] [] = true
same [] (y ∷ ys) = false
same (x ∷ xs) [] = false
same (x ∷ xs) (y ∷ ys) = eqb x y && same xs ys

unfoldable pub lists_are : ℕ → (keys own us uk vs vk : List ℕ) → Bool
unfolding same
lists_are d keys own us uk vs vk =
    (same us (row_starts (u_row d keys own) keys) && same uk (row_keys (u_row d keys own) keys))
    && (same vs (row_starts (v_row d keys own) keys) && same vk (row_keys (v_row d keys own) keys))
