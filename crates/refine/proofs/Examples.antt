-- Document 01's examples of the factor, and cells that split by one target.
use mathlib.Core.Path.{◌≡◌, refl}
use mathlib.Core.Bool.{true, false}
use mathlib.Core.List.{[], ◌∷◌}
use lib.ListN.{replicate}
use Rattle.slices.specs.Lists.{count, sum, filter, range}
use Rattle.slices.specs.Every.{every}
use Rattle.morton.specs.Anchors.{encode, spread, anchor}
use Rattle.morton.specs.Depth.{depth_from}
use Rattle.refine.specs.Counts.{count_at}
use Rattle.refine.specs.Refinement.{near_limit, factor_by, factor, counts_around, splits_for_targets}

-- at a level within the reference depth, and below it
pub factors :
    (factor_by true (2 ∷ 1 ∷ 0 ∷ []) ≡ 16)
    × (factor_by true (3 ∷ 0 ∷ 0 ∷ []) ≡ 1)
    × (factor_by true (1 ∷ 0 ∷ []) ≡ 16)
    × (factor_by true (0 ∷ 0 ∷ 0 ∷ []) ≡ 32)
    × (factor_by false (2 ∷ 1 ∷ 0 ∷ []) ≡ 1)
    × (factor_by false (0 ∷ 0 ∷ []) ≡ 32)
unfolding sum
factors = (refl, refl, refl, refl, refl, refl)

pub limits : (near_limit 3 64 4 ≡ 64) × (near_limit 3 63 4 ≡ 64) × (near_limit 1 1 1 ≡ 1)
limits = (refl, refl, refl)

-- one axis, one source, and targets where it stands: the reference depth is 1. At level 1 both cells are counted as the root,
-- at level 2 the factor is 1. Without a source it is 32.
pub one-source :
    (splits_for_targets 1 1 1 (4096 ∷ []) (replicate 17 4096) 1 ≡ true)
    × (splits_for_targets 1 1 1 (4096 ∷ []) (replicate 16 4096) 1 ≡ false)
    × (splits_for_targets 1 1 1 (4096 ∷ []) (replicate 2 4096) 2 ≡ true)
    × (splits_for_targets 1 1 1 (4096 ∷ []) (replicate 1 4096) 2 ≡ false)
    × (splits_for_targets 1 1 1 [] (replicate 33 4096) 2 ≡ true)
    × (splits_for_targets 1 1 1 [] (replicate 32 4096) 2 ≡ false)
unfolding factor counts_around count_at count sum encode spread anchor range filter every depth_from
one-source = (refl, refl, refl, refl, refl, refl)
