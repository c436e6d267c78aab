-- Document 01's proved table, as one statement over the key and depth definitions.
use mathlib.Core.Path.{◌≡◌, refl}
use mathlib.Core.Bool.{false}
use mathlib.Core.List.{[], ◌∷◌}
use Rattle.slices.specs.Lists.{range, filter}
use Rattle.slices.specs.Every.{every}
use Rattle.morton.specs.Keys.{valid, parent, children, child_index}
use Rattle.morton.specs.Anchors.{key_at, encode, spread, anchor}
use Rattle.neighbours.specs.Directions.{neighbours}
use Rattle.morton.specs.Depth.{reference_depth, depth_from}

pub proved-table :
    (key_at 2 3 (3 ∷ 5 ∷ []) ≡ 1277955)
    × (parent 2 1277955 ≡ 294914)
    × (child_index 2 1277955 ≡ 3)
    × (key_at 3 1 (1 ∷ 0 ∷ 1 ∷ []) ≡ 163841)
    × (key_at 1 16 (65535 ∷ []) ≡ 2147450896)
    × (key_at 3 16 (65535 ∷ 65535 ∷ 65535 ∷ []) ≡ 9223372036854743056)
    × (valid 2 131073 ≡ false)
    × (neighbours 2 1 ≡ 65537 ∷ 32769 ∷ 98305 ∷ [])
    × (children 1 1 ≡ 2 ∷ 32770 ∷ [])
    × (neighbours 1 0 ≡ []) × (neighbours 2 0 ≡ []) × (neighbours 3 0 ≡ [])
    × (reference_depth 3 0 ≡ 1) × (reference_depth 3 8 ≡ 1) × (reference_depth 3 9 ≡ 2)
    × (reference_depth 2 16 ≡ 2) × (reference_depth 2 17 ≡ 3)
    × (reference_depth 1 65537 ≡ 16)
unfolding encode spread anchor range filter every depth_from
proved-table = (refl, refl, refl, refl, refl, refl, refl, refl, refl, refl, refl, refl, refl, refl, refl, refl, refl, refl)
