-- The changes of a salvage, from the input's rows and the new nodes: by code, then input row, or key for 3.
use Rattle.std.specs.Prelude.{◌≡◌, not, List, ◌++◌, map, ℕ, ◌-◌, ◌≤◌, eqb, length, get_or, take, replicate}
use Rattle.slices.specs.Lists.{filter, range}
use Rattle.slices.specs.Order.{ascending}
use Rattle.tree.specs.Nodes.{stored}
use Rattle.sourced.specs.Room.{Holds}
use Rattle.changed_rows.specs.Told.{Beside, told_keys}

module _ (b : Beside) where
  -- the keys of nodes that no row has
  unfoldable pub new_nodes : List ℕ
  new_nodes = filter (λ k. not (stored b.key k)) b.nodes

  -- the list's two columns
  unfoldable pub told_all : List ℕ
  unfolding told_keys new_nodes
  told_all = told_keys b 1 ++ (told_keys b 2 ++ (ascending new_nodes ++ (told_keys b 4 ++ told_keys b 5)))

  abbrev coded : ℕ → List ℕ → List ℕ
  coded code keys = replicate (length keys) code

  unfoldable pub codes_all : List ℕ
  unfolding told_keys new_nodes
  codes_all = coded 1 (told_keys b 1) ++ (coded 2 (told_keys b 2) ++ (coded 3 (ascending new_nodes) ++ (coded 4 (told_keys b 4) ++ coded 5 (told_keys b 5))))

-- the nodes beside which there is a 0
unfoldable pub zero_nodes : List ℕ → List ℕ → List ℕ
zero_nodes nodes firsts = map (λ q. get_or nodes q 0) (filter (λ q. eqb (get_or firsts q 0) 0) (range 0 (length nodes)))

-- the codes of five parts that end at these places
unfoldable pub code_runs : ℕ → ℕ → ℕ → ℕ → ℕ → List ℕ
code_runs a b c d e = replicate a 1 ++ (replicate (b - a) 2 ++ (replicate (c - b) 3 ++ (replicate (d - c) 4 ++ replicate (e - d) 5)))

-- the list is in the two columns where both have room for it; else it is counted on up to one more than the room for keys
pub record ListedAll (b : Beside) (codes changed : List ℕ) (r : ℕ) : Type 0 where
  pub keys : Holds changed r (told_all b)
  pub coded : r ≤ length codes → r ≤ length changed → take r codes ≡ codes_all b
