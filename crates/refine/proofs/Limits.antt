-- The near limit: a power of the order is small.
use Prim.Native.Nat.{ℕ, zero, suc, ◌^◌, ◌≤◌}
use native.Mathlib.Nat.{pow-le-pow_left}
use native.Mathlib.Omega.{arith}

pub power-fits : (d order : ℕ) → d ≤ 3 → order ≤ 64 → order ^ d ≤ 262144
power-fits d order few small = omega (arith, pow-le-pow_left small d, up d few)
  where
    up : (b : ℕ) → b ≤ 3 → 64 ^ b ≤ 262144
    up zero l = omega arith
    up (suc zero) l = omega arith
    up (suc (suc zero)) l = omega arith
    up (suc (suc (suc zero))) l = omega arith
    up (suc (suc (suc (suc b)))) l = absurd (omega arith)
