-- Numbers of IEEE 754 binary64: a size, a test, and a floor.
use Rattle.std.specs.Prelude.{ℕ, ◌+◌, ◌-◌, ◌*◌, ◌/◌, Bool, true, false, ℤ, pos, neg_ℤ, Float}
use Rattle.std.specs.Float.{nan, inf, fin}
use Rattle.std.specs.Float.Ieee.{up, down}

-- +0.0
abbrev pub nought : Float
nought = fin false 0 (pos 0)

-- the same number with its sign off
unfoldable pub size_of : Float → Float
size_of nan = nan
size_of (inf s) = inf false
size_of (fin s m e) = fin false m e

-- neither a NaN nor an infinity
abbrev pub is_finite : Float → Bool
is_finite nan = false
is_finite (inf s) = false
is_finite (fin s m e) = true

-- a NaN and an infinity have no floor
pub data Floor : Type 0 where
  no_floor : Floor
  whole : ℤ → Floor

-- the greatest integer that is no more than n / d, or than -(n / d) where the sign is set, for a d above 0
abbrev pub floor_ratio : Bool → ℕ → ℕ → ℤ
floor_ratio false n d = pos (n / d)
floor_ratio true n d = neg_ℤ (pos ((n + (d - 1)) / d))

unfoldable pub floor : Float → Floor
floor nan = no_floor
floor (inf s) = no_floor
floor (fin s m e) = whole (floor_ratio s (m * up e) (down e))
