-- Numbers in a list of bytes, little-endian.
use Rattle.std.specs.Prelude.{ℕ, zero, suc, ◌+◌, ◌*◌, List, [], ◌∷◌, get_or, Float}
use Rattle.std.specs.Float.{binary64}
use Rattle.std.specs.Float.Ieee.{of_bits}

-- the number of n bytes, the first of which stands at a place
unfoldable pub number_at : List ℕ → ℕ → ℕ → ℕ
number_at bytes zero at = 0
number_at bytes (suc n) at = get_or bytes at 0 + 256 * number_at bytes n (suc at)

abbrev pub u32_at : List ℕ → ℕ → ℕ
u32_at bytes at = number_at bytes 4 at

-- the f64 with that bit pattern; the pattern of a NaN is a NaN
abbrev pub f64_at : List ℕ → ℕ → Float
f64_at bytes at = of_bits binary64 (number_at bytes 8 at)

-- n of them, one after the other
unfoldable pub f64s_at : List ℕ → ℕ → ℕ → List Float
f64s_at bytes zero at = []
f64s_at bytes (suc n) at = f64_at bytes at ∷ f64s_at bytes n (at + 8)
