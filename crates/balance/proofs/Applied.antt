-- The theorems speak of something: the examples' trees, one that is not balanced and one that is.
use mathlib.Core.Path.{refl, subst}
use mathlib.Core.List.{[], ◌∷◌}
use native.Mathlib.Omega.{arith}
use Rattle.slices.specs.Lists.{any}
use Rattle.slices.specs.Every.{every}
use Rattle.morton.specs.Anchors.{anchor}
use Rattle.tree.specs.Nodes.{leaf}
use Rattle.tree.specs.WellFormed.{keys_ascend, parents_stored}
use Rattle.tree.specs.Order.{before, in_order}
use Rattle.balance.specs.Meeting.{meets}
use Rattle.balance.specs.Balance.{Tree, Balanced, Balances}
use Rattle.balance.proofs.Examples.{ripple₁, balanced₁, even₁, comes_back}
use Rattle.balance.proofs.Balance.{tree_of, balances-depth-first}

tree₁ : Tree 1 ripple₁
unfolding keys_ascend in_order before parents_stored every any
tree₁ = tree_of 1 ripple₁ (record { axes = refl; some = omega arith; ascend = refl; parents = refl })

pub applied₁ : Balances 1 ripple₁ (0 ∷ 1 ∷ 2 ∷ 3 ∷ 32771 ∷ 65540 ∷ 98308 ∷ 32770 ∷ 65539 ∷ 98307 ∷ 32769 ∷ 65538 ∷ 98306 ∷ [])
applied₁ = subst (Balances 1 ripple₁) balanced₁ (balances-depth-first 1 ripple₁ tree₁)

-- and the tree itself is not balanced: its leaves 98308, at level 4, and 32770, at level 2, share the point 1/4
pub uneven : Balanced 1 ripple₁ → ⊥
unfolding leaf any meets every anchor
uneven b = omega (arith, b.even 98308 32770 refl refl refl)

even-tree : Tree 1 even₁
unfolding keys_ascend in_order before parents_stored every any
even-tree = tree_of 1 even₁ (record { axes = refl; some = omega arith; ascend = refl; parents = refl })

pub even-balanced : Balanced 1 (0 ∷ 1 ∷ 2 ∷ 3 ∷ 32771 ∷ 32770 ∷ 32769 ∷ [])
even-balanced = subst (Balanced 1) comes_back (balances-depth-first 1 even₁ even-tree).balanced
