-- Small trees and what order 9 makes of them, by the definitions alone. They stand in Z order, as they are given and as they come back.
use mathlib.Core.Path.{◌≡◌, refl}
use mathlib.Core.Bool.{true, false}
use mathlib.Core.List.{List, [], ◌∷◌}
use Prim.Native.Nat.{ℕ}
use Rattle.slices.specs.Lists.{any, concat_map, range}
use Rattle.slices.specs.Every.{every}
use Rattle.morton.specs.Anchors.{anchor, near, close}
use Rattle.balance.specs.Meeting.{meets}
use Rattle.balance.specs.Splitting.{inside, must_split, cells_from, balanced_cells}

-- ---- a ripple on one axis: beside the level-4 leaves below 1/4 the leaf [1/4, 1/2] is split; then the leaf [1/2, 1], which touches no leaf of the tree that is too small for it
abbrev pub ripple₁ : List ℕ
ripple₁ = 0 ∷ 1 ∷ 2 ∷ 3 ∷ 32771 ∷ 65540 ∷ 98308 ∷ 32770 ∷ 32769 ∷ []

pub balanced₁ : balanced_cells 1 ripple₁ ≡ 0 ∷ 1 ∷ 2 ∷ 3 ∷ 32771 ∷ 65540 ∷ 98308 ∷ 32770 ∷ 65539 ∷ 98307 ∷ 32769 ∷ 65538 ∷ 98306 ∷ []
unfolding balanced_cells cells_from must_split inside any every concat_map range anchor
balanced₁ = refl

-- one round is not enough: [1/2, 1] shares no point with the level-4 leaves, and must be split
pub not_yet : (meets 1 98308 32769 ≡ false) × (must_split 1 ripple₁ 32769 ≡ true)
unfolding meets must_split inside any every anchor
not_yet = (refl, refl)

-- ---- two axes, with a ripple: all three other cells round the corner (1/4, 1/4) are split, then all three round (1/2, 1/2)
abbrev pub ripple₂ : List ℕ
ripple₂ = 0 ∷ 1 ∷ 2 ∷ 3 ∷ 32771 ∷ 65539 ∷ 98307 ∷ 393220 ∷ 425988 ∷ 458756 ∷ 491524 ∷ 32770 ∷ 65538 ∷ 98306 ∷ 32769 ∷ 65537 ∷ 98305 ∷ []

pub balanced₂ : balanced_cells 2 ripple₂ ≡ 0 ∷ 1 ∷ 2 ∷ 3 ∷ 32771 ∷ 65539 ∷ 98307 ∷ 393220 ∷ 425988 ∷ 458756 ∷ 491524 ∷ 32770 ∷ 131075 ∷ 163843 ∷ 196611 ∷ 229379 ∷ 65538 ∷ 262147 ∷ 294915 ∷ 327683 ∷ 360451 ∷ 98306 ∷ 393219 ∷ 425987 ∷ 458755 ∷ 491523 ∷ 32769 ∷ 131074 ∷ 163842 ∷ 196610 ∷ 229378 ∷ 65537 ∷ 262146 ∷ 294914 ∷ 327682 ∷ 360450 ∷ 98305 ∷ 393218 ∷ 425986 ∷ 458754 ∷ 491522 ∷ []
unfolding balanced_cells cells_from must_split inside any every concat_map range anchor
balanced₂ = refl

-- ---- corners count: the level-3 leaf 491523 and the level-1 leaf 98305 share the point (1/2, 1/2) only, and the second is split
abbrev pub corner₂ : List ℕ
corner₂ = 0 ∷ 1 ∷ 2 ∷ 32770 ∷ 65538 ∷ 98306 ∷ 393219 ∷ 425987 ∷ 458755 ∷ 491523 ∷ 32769 ∷ 65537 ∷ 98305 ∷ []

pub by-a-corner : (meets 2 491523 98305 ≡ true) × (must_split 2 corner₂ 98305 ≡ true)
unfolding meets must_split inside any every anchor
by-a-corner = (refl, refl)

pub balanced-corner : balanced_cells 2 corner₂ ≡ 0 ∷ 1 ∷ 2 ∷ 32770 ∷ 65538 ∷ 98306 ∷ 393219 ∷ 425987 ∷ 458755 ∷ 491523 ∷ 32769 ∷ 131074 ∷ 163842 ∷ 196610 ∷ 229378 ∷ 65537 ∷ 262146 ∷ 294914 ∷ 327682 ∷ 360450 ∷ 98305 ∷ 393218 ∷ 425986 ∷ 458754 ∷ 491522 ∷ []
unfolding balanced_cells cells_from must_split inside any every concat_map range anchor
balanced-corner = refl

-- ---- closed cells that share no point may still be `close`: [1/8, 1/4] and [1/2, 1] are, by their cells at level 1. The tree is balanced as it is.
abbrev pub even₁ : List ℕ
even₁ = 0 ∷ 1 ∷ 2 ∷ 3 ∷ 32771 ∷ 32770 ∷ 32769 ∷ []

pub close-only : (close 1 32771 32769 ≡ true) × (meets 1 32771 32769 ≡ false)
unfolding near meets every anchor
close-only = (refl, refl)

pub comes_back : balanced_cells 1 even₁ ≡ 0 ∷ 1 ∷ 2 ∷ 3 ∷ 32771 ∷ 32770 ∷ 32769 ∷ []
unfolding balanced_cells cells_from must_split inside any every concat_map range anchor
comes_back = refl

-- ---- the root alone
pub root-alone : balanced_cells 3 (0 ∷ []) ≡ 0 ∷ []
unfolding balanced_cells cells_from must_split any
root-alone = refl
