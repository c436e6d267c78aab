-- The whole numbers under and over a fraction, and those of a size that is given by its bits.
use mathlib.Core.Path.{◌≡◌, sym, ap, ap₂, ◌∙◌}
use Prim.Native.Nat.{ℕ, zero, suc, ◌+◌, ◌-◌, ◌*◌, ◌/◌, ◌%◌, ◌^◌, ◌≤◌, ◌<◌}
use native.Mathlib.Nat.{le_trans, le_of_eq, le_of_lt, lt_of_lt_of_le, lt_of_le_of_lt, le-div_iff_mul-le, div-lt_iff_lt-mul, div-eq_of_lt, div-div-eq-div-mul, div-le_self, mul_comm, mul-pos, mul-add-div_right, mod-lt, mod-eq_of_lt, one-mul, add-zero}
use native.Mathlib.Omega.{arith}
use lib.Dec.{lit≤}
use lib.Pow.{pow-add, pow_pos, pow_mono, pow-lt, shl_lt}
use lib.Bits.{bit_and, bit_or}
use Rattle.space.proofs.Patterns.{with_lead, shifted_down, digits_are}
use Rattle.extents.specs.Floors.{quotient_down, quotient_up, units_in, units_of, whole_under, whole_over}

-- 2 ^ n by a shift
pub shifted_one : (n : ℕ) → n < 64 → 1 * 2 ^ n % 18446744073709551616 ≡ 2 ^ n
shifted_one n h = ap (λ (k : ℕ). k % 18446744073709551616) (one-mul (2 ^ n)) ∙ mod-eq_of_lt (pow-lt h)

-- ---- any fraction
-- a whole number's own
pub under_whole : (k c : ℕ) → 0 < c → quotient_down (k * c) c ≡ k
under_whole k c C = native.Mathlib.Nat.mul-div_cancel k C

less_one : (c : ℕ) → 0 < c → c - 1 < c
less_one c h = omega arith

pub over-whole : (k c : ℕ) → 0 < c → quotient_up (k * c) c ≡ k
over-whole k c C = mul-add-div_right C k (c - 1) ∙ ap (λ n. k + n) (div-eq_of_lt (less_one c C)) ∙ add-zero k

-- in lowest terms or not
split : (c p : ℕ) → 0 < p → 0 < c → c * p - 1 ≡ (c - 1) * p + (p - 1)
split zero p P C = absurd (omega arith)
split (suc c) p P C = let e : suc c * p ≡ c * p + p = native.Mathlib.Nat.suc-mul c p in go (suc c * p) (c * p) p P e ∙ ap (λ n. n * p + (p - 1)) (sym (less c))
  where
    less : (c : ℕ) → suc c - 1 ≡ c
    less c = omega arith

    go : (a b p : ℕ) → 0 < p → a ≡ b + p → a - 1 ≡ b + (p - 1)
    go a b p P e = omega arith

over-scale : (q c p : ℕ) → 0 < p → 0 < c → quotient_up (q * p) (c * p) ≡ quotient_up q c
over-scale q c p P C =
    ap (λ d. (q * p + (c * p - 1)) / d) (mul_comm c p)
    ∙ sym (div-div-eq-div-mul (q * p + (c * p - 1)) p c)
    ∙ ap (λ n. n / c) (mul-add-div_right P q (c * p - 1) ∙ ap (λ n. q + n) (ap (λ n. n / p) (split c p P C) ∙ over-rest))
  where
    over-rest : ((c - 1) * p + (p - 1)) / p ≡ c - 1
    over-rest = mul-add-div_right P (c - 1) (p - 1) ∙ ap (λ n. c - 1 + n) (div-eq_of_lt (less_one p P)) ∙ add-zero (c - 1)

pub over-same : (a b c d : ℕ) → 0 < b → 0 < d → a * d ≡ c * b → quotient_up a b ≡ quotient_up c d
over-same a b c d B D e = sym (over-scale a b d D B) ∙ ap₂ quotient_up e (mul_comm b d) ∙ over-scale c d b B D

over-one : (g c : ℕ) → 0 < g → g < c → quotient_up g c ≡ 1
over-one g c G L =
    let C : 0 < c = omega arith in
    let l : 1 ≤ quotient_up g c = (le-div_iff_mul-le C).1 (low g c G) in
    let h : quotient_up g c < 2 = (div-lt_iff_lt-mul C).1 (high g c G L) in
    omega arith
  where
    low : (g c : ℕ) → 0 < g → 1 * c ≤ g + (c - 1)
    low g c G = omega arith

    high : (g c : ℕ) → 0 < g → g < c → g + (c - 1) < 2 * c
    high g c G L = omega arith

over-next : (q u : ℕ) → 0 < u → quotient_up q u ≤ q / u + 1
over-next q u U =
    le_trans (lib.Ieee.Nearest.div_mono (q + (u - 1)) u (1 * u + q) u U U (native.Mathlib.Nat.mul-le-mul_right u (go q u)))
    (le_of_eq (mul-add-div_right U 1 q ∙ native.Mathlib.Nat.add_comm 1 (q / u)))
  where
    go : (q u : ℕ) → q + (u - 1) ≤ 1 * u + q
    go q u = omega arith

-- ---- a size, by its exponent's field and its digits
units_small : (e t : ℕ) → t < 2 ^ 52 → e < 1023 → units_in e t < 2 ^ 1074
units_small zero t T h = lt_of_lt_of_le T (pow_mono {i = 52} {j = 1074} (lit≤ tt))
units_small (suc j) t T h = lt_of_lt_of_le (shl_lt 53 j (with_lead t T)) (pow_mono {i = 53 + j} {j = 1074} (omega arith))

under-mid : (e t : ℕ) → 1023 ≤ e → e < 1075 → (2 ^ 52 + t) / 2 ^ (1075 - e) ≡ quotient_down (units_in e t) (2 ^ 1074)
under-mid zero t g h = absurd (omega arith)
under-mid (suc j) t g h =
    let s : 1075 - suc j ≡ 1074 - j = omega arith in
    let i : j ≤ 1074 = omega arith in
    ap (λ n. (2 ^ 52 + t) / 2 ^ n) s ∙ shifted_down (2 ^ 52 + t) j i

over-mid : (e t : ℕ) → 1023 ≤ e → e < 1075 → quotient_up (2 ^ 52 + t) (2 ^ (1075 - e)) ≡ quotient_up (units_in e t) (2 ^ 1074)
over-mid zero t g h = absurd (omega arith)
over-mid (suc j) t g h =
    let s : 1075 - suc j ≡ 1074 - j = omega arith in
    let i : 1074 - j + j ≡ 1074 = omega arith in
    ap (λ n. quotient_up (2 ^ 52 + t) (2 ^ n)) s
    ∙ sym (over-scale (2 ^ 52 + t) (2 ^ (1074 - j)) (2 ^ j) (pow_pos j) (pow_pos (1074 - j)))
    ∙ ap (λ n. quotient_up ((2 ^ 52 + t) * 2 ^ j) n) (sym (pow-add 2 (1074 - j) j) ∙ ap (λ n. 2 ^ n) i)

units-some : (e t : ℕ) → 0 < e + t → 0 < units_in e t
units-some zero t h = omega arith
units-some (suc j) t h = mul-pos (go t) (pow_pos j)
  where
    go : (t : ℕ) → 0 < 4503599627370496 + t
    go t = omega arith

-- ---- and by its bits
module _ (bits : ℕ) where
  abbrev e : ℕ
  e = bits / 2 ^ 52

  abbrev t : ℕ
  t = bits % 2 ^ 52

  pub under_low : e < 1023 → 0 ≡ whole_under bits
  unfolding whole_under units_of
  under_low h = sym (div-eq_of_lt (units_small e t (mod-lt bits (pow_pos 52)) h))

  pub under-high : 1023 ≤ e → e < 1075 → bit_or (bit_and bits (2 ^ 52 - 1)) (2 ^ 52) / 2 ^ (1075 - e) ≡ whole_under bits
  unfolding whole_under units_of
  under-high g h = ap (λ q. q / 2 ^ (1075 - e)) (digits_are bits) ∙ under-mid e t g h

  pub over_none : bits ≡ 0 → 0 ≡ whole_over bits
  unfolding whole_over units_of
  over_none h = sym (ap (λ n. quotient_up (units_in (n / 2 ^ 52) (n % 2 ^ 52)) (2 ^ 1074)) h ∙ div-eq_of_lt (less_one (2 ^ 1074) (pow_pos 1074)))

  pub over-low : (bits ≡ 0 → ⊥) → e < 1023 → 1 ≡ whole_over bits
  unfolding whole_over units_of
  over-low n h =
      let s : 0 < bits / 4503599627370496 + bits % 4503599627370496 = omega arith in
      sym (over-one (units_in e t) (2 ^ 1074) (units-some e t s) (units_small e t (mod-lt bits (pow_pos 52)) h))

  pub over-high : 1023 ≤ e → e < 1075 → quotient_up (bit_or (bit_and bits (2 ^ 52 - 1)) (2 ^ 52)) (2 ^ (1075 - e)) ≡ whole_over bits
  unfolding whole_over units_of
  over-high g h = ap (λ q. quotient_up q (2 ^ (1075 - e))) (digits_are bits) ∙ over-mid e t g h

  -- no more than 53 digits
  pub lead : bit_or (bit_and bits (2 ^ 52 - 1)) (2 ^ 52) < 2 ^ 53
  lead = lt_of_le_of_lt (le_of_eq (digits_are bits)) (with_lead t (mod-lt bits (pow_pos 52)))

  pub under-fits : (s : ℕ) → bit_or (bit_and bits (2 ^ 52 - 1)) (2 ^ 52) / 2 ^ s ≤ 2 ^ 53
  under-fits s = le_trans (div-le_self (bit_or (bit_and bits (2 ^ 52 - 1)) (2 ^ 52)) (2 ^ s)) (le_of_lt lead)

  pub over-fits : (s : ℕ) → quotient_up (bit_or (bit_and bits (2 ^ 52 - 1)) (2 ^ 52)) (2 ^ s) ≤ 2 ^ 53
  over-fits s =
      let q = bit_or (bit_and bits (2 ^ 52 - 1)) (2 ^ 52) in
      le_trans (over-next q (2 ^ s) (pow_pos s)) (go (q / 2 ^ s) (lt_of_le_of_lt (div-le_self q (2 ^ s)) lead))
    where
      go : (n : ℕ) → n < 9007199254740992 → n + 1 ≤ 9007199254740992
      go n h = omega arith
