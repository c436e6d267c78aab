-- The literals of the code, which come as bit patterns, and the values that the definitions name.
use mathlib.Core.Path.{◌≡◌, refl}
use mathlib.Core.Bool.{true, false}
use lib.IntN.{pos, negsuc}
use lib.Ieee.{inf, fin, binary64, of_bits, neg}

pub zero_is : of_bits binary64 0 ≡ fin false 0 (pos 0)
unfolding of_bits
zero_is = refl

pub quarter-is : of_bits binary64 4598175219545276416 ≡ fin false 1 (negsuc 1)
unfolding of_bits
quarter-is = refl

pub radius-limit-is : of_bits binary64 4697254411347427328 ≡ fin false 1 (pos 20)
unfolding of_bits
radius-limit-is = refl

pub centre-limit-is : of_bits binary64 4715268809856909312 ≡ fin false 1 (pos 24)
unfolding of_bits
centre-limit-is = refl

-- the infinity, and its negative
pub top-is : of_bits binary64 9218868437227405312 ≡ inf false
unfolding of_bits
top-is = refl

pub minus-top-is : neg (of_bits binary64 9218868437227405312) ≡ inf true
unfolding of_bits neg
minus-top-is = refl
