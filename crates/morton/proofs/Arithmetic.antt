-- The numbers of a valid key and of its parent and children fit, and are what the shifts compute.
use mathlib.Core.Path.{◌≡◌, ap, ◌∙◌}
use Prim.Native.Nat.{ℕ, suc, ◌+◌, ◌*◌, ◌-◌, ◌%◌, ◌^◌, ◌≤◌, ◌<◌}
use native.Mathlib.Omega.{arith}
use native.Mathlib.Nat.{one-mul, mul-suc, mul-le-mul_left, mul-le-mul_right, suc-mul}
use lib.Pow.{pow_mono, pow-add, shl_exact, shr_lt}
use Rattle.morton.specs.Keys.{level_of, code_of, ValidKey, parent, child}
use Rattle.morton.proofs.Checks.{width-le}
use Rattle.morton.proofs.Cells.{key-level, key-code, level-parent, code-parent}

-- 1 << n
pub one_shifted : (n : ℕ) → n ≤ 16 → 1 * 2 ^ n % 2 ^ 64 ≡ 2 ^ n
one_shifted n h = let lt : 1 < 2 ^ 1 = omega arith in shl_exact 1 n 64 lt (omega arith) ∙ one-mul (2 ^ n)

module _ (d k : ℕ) (v : ValidKey d k) where
  pub code-48 : code_of k < 2 ^ 48
  code-48 = omega (arith, v.code, pow_mono {i = d * level_of k} {j = 48} (width-le d (level_of k) v.most v.level))

  pub code-16 : code_of k < 2 ^ (d * 16)
  code-16 = omega (arith, v.code, pow_mono {i = d * level_of k} {j = d * 16} (mul-le-mul_left d v.level))

  pub parent-valid : 0 < level_of k → ValidKey d (parent d k)
  parent-valid h =
      let e : level_of k ≡ suc (level_of k - 1) = omega arith in
      let lt : code_of k < 2 ^ (d * (level_of k - 1) + d) = rw (← mul-suc d (level_of k - 1), ← e) v.code in
      record {
        some = v.some;
        most = v.most;
        level = omega (arith, level-parent d k, v.level);
        code = rw (level-parent d k, code-parent d k) (shr_lt (d * (level_of k - 1)) d lt);
      }

  module _ (h : level_of k < 16) (c : ℕ) (few : c < 2 ^ d) where
    -- the child's code is one of its level
    child-lt : code_of k * 2 ^ d + c < 2 ^ (d * (level_of k + 1))
    child-lt =
        let e : 2 ^ (d * (level_of k + 1)) ≡ 2 ^ (d * level_of k) * 2 ^ d = ap (λ (n : ℕ). 2 ^ n) (ap (λ (n : ℕ). d * n) (omega arith) ∙ mul-suc d (level_of k)) ∙ pow-add 2 (d * level_of k) d in
        omega (arith, mul-le-mul_right (2 ^ d) v.code, suc-mul (code_of k) (2 ^ d))

    pub child-48 : code_of k * 2 ^ d + c < 2 ^ 48
    child-48 = omega (arith, child-lt, pow_mono {i = d * (level_of k + 1)} {j = 48} (width-le d (level_of k + 1) v.most (omega arith)))

    pub child-valid : ValidKey d (child d k c)
    child-valid =
        let l : level_of (child d k c) ≡ level_of k + 1 = key-level (level_of k + 1) (code_of k * 2 ^ d + c) (omega arith) in
        let e : code_of (child d k c) ≡ code_of k * 2 ^ d + c = key-code (level_of k + 1) (code_of k * 2 ^ d + c) (omega arith) in
        record { some = v.some; most = v.most; level = omega (arith, l); code = rw (l, e) child-lt }

  -- code << axes
  pub code-shifted : level_of k < 16 → code_of k * 2 ^ d % 2 ^ 64 ≡ code_of k * 2 ^ d
  code-shifted h = shl_exact 48 d 64 code-48 (omega (arith, v.most))
