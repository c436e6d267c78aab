-- Document 01, "How the tree grows": the nodes. Sources and targets are the level-16 codes of the points;
-- targets that are not used are no targets.
use Rattle.std.specs.Prelude.{Bool, true, false, ◌&&◌, ◌||◌, ltb, eqb}
use Rattle.std.proofs.Math.Bool.{cond}
use mathlib.Core.List.{List, [], ◌∷◌}
use Prim.Native.Nat.{ℕ, zero, suc}
use Rattle.slices.specs.Lists.{filter, concat_map}
use Rattle.morton.specs.Keys.{deepest, level_of, children}
use Rattle.refine.specs.Counts.{sources_in}
use Rattle.refine.specs.Refinement.{splits_for_targets}
use Rattle.growth.specs.declared.Rule.{Rule}

module _ (g : Rule) (sources targets : List ℕ) where
  -- the root always splits; a child of level under 16 splits if it holds more sources than the limit or refinement says so
  unfoldable pub splits : ℕ → Bool
  splits k =
      eqb (level_of k) 0
      || (ltb (level_of k) deepest && (ltb g.limit (sources_in g.axes sources k) || splits_for_targets g.axes g.limit g.order sources targets k))

  -- with the keep-empty flag all 2^d children are stored; without it, those with sources
  abbrev pub kept : ℕ → Bool
  kept k = g.keep || ltb 0 (sources_in g.axes sources k)

  -- the children stored under a cell, in ascending code
  unfoldable pub kids : ℕ → List ℕ
  unfolding splits
  kids k = cond (splits k) (filter kept (children g.axes k)) []

  -- cell k, then its stored children ascending, each followed by its own; at most so many levels are left
  unfoldable pub preorder : ℕ → ℕ → List ℕ
  unfolding concat_map kids
  preorder zero k = k ∷ []
  preorder (suc left) k = k ∷ concat_map (preorder left) (kids k)

  -- the nodes in Z order
  unfoldable pub nodes : List ℕ
  unfolding preorder
  nodes = preorder deepest 0
