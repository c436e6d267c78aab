-- The same nodes in two orders, and the old numbers.
use Rattle.std.specs.Prelude.{◌≡◌, Bool, List, ℕ, ◌+◌, ltb, eqb, get_or, take}
use Rattle.slices.specs.Lists.{count}
use Rattle.morton.specs.Keys.{level_of}
use Rattle.tree.specs.Nodes.{own_of}

-- each number stands equally often in both
abbrev pub Arrangement : List ℕ → List ℕ → Type 0
Arrangement xs ys = (x : ℕ) → count (λ c. eqb c x) xs ≡ count (λ c. eqb c x) ys

-- two trees of the same nodes, each owning the same
pub record SameTree (keys own keys' own' : List ℕ) : Type 0 where
  pub arranged : Arrangement keys keys'
  pub owned : (k : ℕ) → own_of keys own k ≡ own_of keys' own' k

-- the number that node i had when nodes were numbered by level, then ascending code: first all coarser nodes, then those of its level before it
unfoldable pub old_number : List ℕ → ℕ → ℕ
old_number keys i = count (λ k. ltb (level_of k) (level_of (get_or keys i 0))) keys + count (λ k. eqb (level_of k) (level_of (get_or keys i 0))) (take i keys)
