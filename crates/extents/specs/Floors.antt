-- The floor and the ceiling of an f64, as f64, with IEEE 754's sign of zero.
use Rattle.std.specs.Prelude.{Bool, true, false, ℕ, zero, suc, ◌+◌, ◌-◌, ◌*◌, ◌/◌, ◌%◌, ◌^◌, Float}
use Rattle.std.specs.Float.{nan, inf, fin, binary64}
use Rattle.std.specs.Float.Ieee.{up, down, round, neg}

-- n / d rounded down, and rounded up, for a d above 0
abbrev pub quotient_down : ℕ → ℕ → ℕ
quotient_down n d = n / d

abbrev pub quotient_up : ℕ → ℕ → ℕ
quotient_up n d = (n + (d - 1)) / d

-- the floor: of a number below 0 the size is rounded up; a zero keeps its sign
unfoldable pub floor_of : Float → Float
floor_of nan = nan
floor_of (inf s) = inf s
floor_of (fin false m e) = round binary64 false (quotient_down (m * up e) (down e)) 1
floor_of (fin true m e) = round binary64 true (quotient_up (m * up e) (down e)) 1

-- minus the floor of minus x
abbrev pub ceil_of : Float → Float
ceil_of x = neg (floor_of (neg x))

-- ---- a bit pattern with its sign off, from 0 up to the infinity: the size in units of 2 ^ -1074
abbrev pub units_in : ℕ → ℕ → ℕ
units_in zero digits = digits
units_in (suc e) digits = (2 ^ 52 + digits) * 2 ^ e

unfoldable pub units_of : ℕ → ℕ
units_of bits = units_in (bits / 2 ^ 52) (bits % 2 ^ 52)

-- the size as a whole number, rounded down, and rounded up
unfoldable pub whole_under : ℕ → ℕ
unfolding units_of
whole_under bits = quotient_down (units_of bits) (2 ^ 1074)

unfoldable pub whole_over : ℕ → ℕ
unfolding units_of
whole_over bits = quotient_up (units_of bits) (2 ^ 1074)
