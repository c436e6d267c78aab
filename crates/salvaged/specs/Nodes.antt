-- Document 02, order 8: the input's columns, and the keys of the tree that is had from them.
use Rattle.std.specs.Prelude.{Bool, cond, List, [], ◌∷◌, ℕ, eqb}
use Rattle.slices.specs.Lists.{filter, concat_map}
use Rattle.morton.specs.Keys.{valid, upwards, ancestors}
use Rattle.tree.specs.Order.{before}

-- the number of axes, the key, count and begin columns, and the order column
pub record Input : Type 0 where
  pub axes : ℕ
  pub key : List ℕ
  pub own : List ℕ
  pub begin : List ℕ
  pub order : List ℕ

abbrev pub input : (axes : ℕ) → (key own begin order : List ℕ) → Input
input axes key own begin order = record { axes = axes; key = key; own = own; begin = begin; order = order }

-- k put in its place of the nodes' order; a key that stands there already is not put again
unfoldable pub put : ℕ → ℕ → List ℕ → List ℕ
put d k [] = k ∷ []
put d k (x ∷ xs) = cond (eqb k x) (x ∷ xs) (cond (before d k x) (k ∷ x ∷ xs) (x ∷ put d k xs))

-- keys put in the nodes' order, each once
unfoldable pub put_all : ℕ → List ℕ → List ℕ
unfolding put
put_all d [] = []
put_all d (k ∷ ks) = put d k (put_all d ks)

-- keep the valid keys of the input, add the root and all missing ancestors, and put them in order
unfoldable pub kept_keys : ℕ → List ℕ → List ℕ
unfolding put_all filter concat_map upwards
kept_keys d key = put_all d (0 ∷ concat_map (ancestors d) (filter (valid d) key))
