-- Sums of three sources on one axis, and of four on three axes.
use mathlib.Core.Path.{◌≡◌, refl}
use mathlib.Core.List.{[], ◌∷◌}
use Rattle.slices.specs.Lists.{count}
use Rattle.refine.specs.Counts.{count_at}
use Rattle.refine.specs.Cells.{up_to_cell}
use Rattle.refine.specs.Sums.{cells_above, bits_below}

-- depth 2: the two cells of level 1 begin at 0 and at 32768
pub one-axis :
    (cells_above 1 2 ≡ 2)
    × (up_to_cell (bits_below 1 2) (0 ∷ 65535 ∷ 32768 ∷ []) 0 ≡ 1)
    × (up_to_cell (bits_below 1 2) (0 ∷ 65535 ∷ 32768 ∷ []) 1 ≡ 3)
    × (count_at 1 (0 ∷ 65535 ∷ 32768 ∷ []) 1 1 ≡ 2)
unfolding count count_at
one-axis = (refl, refl, refl, refl)

-- depth 1: the root alone
pub three-axes : (cells_above 3 1 ≡ 1) × (up_to_cell (bits_below 3 1) (0 ∷ 7 ∷ 281474976710655 ∷ 7 ∷ []) 0 ≡ 4)
unfolding count
three-axes = (refl, refl)
