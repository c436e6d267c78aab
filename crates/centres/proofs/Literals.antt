-- The literals of the code, which come as bit patterns, and the values that the definitions name.
use mathlib.Core.Path.{◌≡◌, refl}
use lib.Ieee.{binary64, of_bits}
use Rattle.centres.specs.Centres.{half}

pub half_is : of_bits binary64 4602678819172646912 ≡ half
unfolding of_bits
half_is = refl
