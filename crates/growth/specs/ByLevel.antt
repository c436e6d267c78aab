-- The nodes as they were numbered before order 10: by level, then ascending code. No promise speaks of them: they serve the theorems that tie both orders to each other.
use mathlib.Core.List.{List, [], ◌∷◌, ◌++◌}
use Prim.Native.Nat.{ℕ, zero, suc}
use Rattle.slices.specs.Lists.{concat_map}
use Rattle.morton.specs.Keys.{deepest}
use Rattle.growth.specs.declared.Rule.{Rule}
use Rattle.growth.specs.Nodes.{kids}

module _ (g : Rule) (sources targets : List ℕ) where
  -- the cells stored at a level, in ascending code
  unfoldable pub cells_at : ℕ → List ℕ
  unfolding kids
  cells_at zero = 0 ∷ []
  cells_at (suc l) = concat_map (kids g sources targets) (cells_at l)

  unfoldable pub nodes_to : ℕ → List ℕ
  unfolding cells_at
  nodes_to zero = cells_at zero
  nodes_to (suc l) = nodes_to l ++ cells_at (suc l)

  -- all of them, by level, then ascending code
  unfoldable pub nodes_by_level : List ℕ
  nodes_by_level = nodes_to deepest
