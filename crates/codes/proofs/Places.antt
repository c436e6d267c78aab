-- Numbers read place by place: a law of every function F that takes the low t bits of a number for its first digit, and u bits higher in what it gives
-- goes on with the rest. `spread` (t = 1, u = d) and `anchor` (t = d, u = 1) are two of them.
use mathlib.Core.Path.{◌≡◌, sym, ap, ap₂, ◌∙◌}
use Prim.Native.Nat.{ℕ, zero, suc, ◌+◌, ◌*◌, ◌-◌, ◌/◌, ◌%◌, ◌^◌, ◌<◌}
use native.Mathlib.Omega.{arith}
use native.Mathlib.Nat.{mul-zero, mul-suc, div-one, zero-add, add-zero, suc-add, add_assoc, add_comm, mul-add, mul_assoc, zero-div, div-eq_of_lt}
use lib.Pow.{pow-add, shr-shr, field, mod-mod-pow}

-- the bits below bit d tell the bit at a, for an a below d
pub low_bit : (d a x : ℕ) → a < d → x % 2 ^ d / 2 ^ a % 2 ≡ x / 2 ^ a % 2
low_bit d a x h =
    let e : d ≡ (d - suc a + 1) + a = omega arith in
    ap (λ (n : ℕ). x % 2 ^ n / 2 ^ a % 2) e ∙ ap (λ (n : ℕ). n % 2) (field x (d - suc a + 1) a) ∙ mod-mod-pow (x / 2 ^ a) (d - suc a) 1

regroup : (b p q m n : ℕ) → b + p * (m + q * n) ≡ b + p * m + p * q * n
regroup b p q m n = ap (λ (z : ℕ). b + z) (mul-add p m (q * n) ∙ ap (λ (z : ℕ). p * m + z) (sym (mul_assoc p q n))) ∙ sym (add_assoc b (p * m) (p * q * n))

-- 2 ^ u, m times, and once more
pub pow_more : (u m : ℕ) → 2 ^ (u * suc m) ≡ 2 ^ u * 2 ^ (u * m)
pow_more u m = ap (λ (n : ℕ). 2 ^ n) (mul-suc u m ∙ add_comm (u * m) u) ∙ pow-add 2 u (u * m)

shift-more : (t m x : ℕ) → x / 2 ^ t / 2 ^ (t * m) ≡ x / 2 ^ (t * suc m)
shift-more t m x = shr-shr x t (t * m) ∙ ap (λ (n : ℕ). x / 2 ^ n) (add_comm t (t * m) ∙ sym (mul-suc t m))

module _ (F : ℕ → ℕ → ℕ) (digit : ℕ → ℕ) (u t : ℕ)
    (none : (x : ℕ) → F 0 x ≡ 0)
    (more : (n x : ℕ) → F (suc n) x ≡ digit x + 2 ^ u * F n (x / 2 ^ t)) where
  -- m places, and n more
  pub split : (m n x : ℕ) → F (m + n) x ≡ F m x + 2 ^ (u * m) * F n (x / 2 ^ (t * m))
  split zero n x =
      let z : F 0 x ≡ 0 = none x in
      rw (zero-add n, mul-zero u, mul-zero t, div-one x) (omega arith)
  split (suc m) n x =
      ap (λ (k : ℕ). F k x) (suc-add m n)
      ∙ more (m + n) x
      ∙ ap (λ (z : ℕ). digit x + 2 ^ u * z) (split m n (x / 2 ^ t))
      ∙ regroup (digit x) (2 ^ u) (2 ^ (u * m)) (F m (x / 2 ^ t)) (F n (x / 2 ^ t / 2 ^ (t * m)))
      ∙ ap₂ (λ (y z : ℕ). y + z) (sym (more m x)) (ap₂ (λ (y z : ℕ). y * F n z) (sym (pow_more u m)) (shift-more t m x))

  -- a number that ends below place m has nothing from there on
  module _ (flat : digit 0 ≡ 0) where
    zeros : (n : ℕ) → F n 0 ≡ 0
    zeros zero = none 0
    zeros (suc n) = more n 0 ∙ rw (flat, zero-div (2 ^ t), zeros n, mul-zero (2 ^ u)) (zero-add 0)

    pub ends : (m n x : ℕ) → x < 2 ^ (t * m) → F (m + n) x ≡ F m x
    ends m n x h = split m n x ∙ rw (div-eq_of_lt h, zeros n, mul-zero (2 ^ (u * m))) (add-zero (F m x))

  -- the first m places read no more than the first t * m bits
  pub cut : ((j x : ℕ) → digit (x % 2 ^ (j + t)) ≡ digit x) → (m x : ℕ) → F m (x % 2 ^ (t * m)) ≡ F m x
  cut local zero x = none _ ∙ sym (none x)
  cut local (suc m) x =
      more m _
      ∙ ap₂ (λ (y z : ℕ). y + 2 ^ u * F m z)
      (ap (λ (n : ℕ). digit (x % 2 ^ n)) (mul-suc t m) ∙ local (t * m) x)
      (ap (λ (n : ℕ). x % 2 ^ n / 2 ^ t) (mul-suc t m) ∙ field x (t * m) t)
      ∙ ap (λ (z : ℕ). digit x + 2 ^ u * z) (cut local m (x / 2 ^ t))
      ∙ sym (more m x)
