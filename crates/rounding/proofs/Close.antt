-- A fraction below 2 ^ (prec + k) units of the format's smallest value is rounded by at most 2 ^ k units, up or down.
use mathlib.Core.Path.{◌≡◌, sym, ap, ◌∙◌, subst}
use mathlib.Core.Bool.{Bool}
use Prim.Native.Nat.{ℕ, suc, ◌+◌, ◌-◌, ◌*◌, ◌/◌, ◌%◌, ◌^◌, ◌≤◌, ◌<◌, compare}
use native.Mathlib.Nat.{le_trans, le_of_eq, lt_of_le_of_lt, mul_comm, mul_assoc, mul-le-mul_right, mul-le-mul_left, mul-le-mul, mul-lt-mul_of_pos_right, le_of_mul-le-mul_right, mul-pos, mod-lt, div-add-mod', div-lt_iff_lt-mul, div-div-eq-div-mul}
use native.Mathlib.Omega.{arith}
use lib.Pow.{pow-add, pow_pos, pow_mono, pow-lt}
use lib.Ieee.{Float, Format, prec, emax, low, size, round}
use lib.Ieee.Digits.{size-le}
use lib.Ieee.Fits.{kept-lt, nearest-le, round_is}
use lib.Ieee.Exact.{HasValue, units_val}
use lib.Ieee.Nearest.{closest, nearest-ge}
use lib.Ieee.Order.{drop, kept}
use lib.Ieee.Scale.{grid, overflow}

-- ---- a rounded fraction's value, with either sign
kept-le : (p n c : ℕ) → kept p n c ≤ 2 ^ p
kept-le p n c =
    let k = drop p n c in
    let u = c * 2 ^ k in
    le_trans (nearest-le (n / u) (compare (n % u * 2) u)) (subst (λ (x : ℕ). x < 2 ^ p) (div-div-eq-div-mul n c (2 ^ k)) (kept-lt p (n / c)))

pub round-value : (f : Format) (s : Bool) (a c : ℕ) → grid f a c < overflow f → HasValue (round f s a c) s (grid f a c) (2 ^ low f)
round-value f s a c h =
    subst (λ (z : Float). HasValue z s (grid f a c) (2 ^ low f)) (sym (round_is f s a c)) (units_val f s (kept (prec f) (a * 2 ^ low f) c) (drop (prec f) (a * 2 ^ low f) c) h)

-- ---- a whole number of u's near to n: at most u more or less
module _ (n u : ℕ) (U : 0 < u) where
  closest-under : closest n u * u ≤ n + u
  closest-under = omega (arith, mul-le-mul_right u (nearest-le (n / u) (compare (n % u * 2) u)), div-add-mod' n u)

  closest-over : n ≤ closest n u * u + u
  closest-over = omega (arith, mul-le-mul_right u (nearest-ge (n / u) (compare (n % u * 2) u)), div-add-mod' n u, mod-lt n U)

-- ---- what `round` keeps, in units
few : (z p k : ℕ) → z ≤ p + k → z - p ≤ k
few z p k h = omega arith

module _ (f : Format) (k a c : ℕ) (C : 0 < c) (small : a * 2 ^ low f < 2 ^ (prec f + k) * c) where
  abbrev n : ℕ
  n = a * 2 ^ low f

  abbrev j : ℕ
  j = drop (prec f) n c

  j-le : j ≤ k
  j-le = few (size (n / c)) (prec f) k (size-le (n / c) (prec f + k) ((div-lt_iff_lt-mul C).1 small))

  unit : kept (prec f) n c * (c * 2 ^ j) ≡ grid f a c * c
  unit = ap (λ (x : ℕ). kept (prec f) n c * x) (mul_comm c (2 ^ j)) ∙ sym (mul_assoc (kept (prec f) n c) (2 ^ j) c)

  step : c * 2 ^ j ≤ 2 ^ k * c
  step = le_trans (mul-le-mul_left c (pow_mono j-le)) (le_of_eq (mul_comm c (2 ^ k)))

  pub grid-under : grid f a c * c ≤ n + 2 ^ k * c
  grid-under = omega (arith, closest-under n (c * 2 ^ j) (mul-pos C (pow_pos j)), unit, step)

  pub grid-over : n ≤ grid f a c * c + 2 ^ k * c
  grid-over = omega (arith, closest-over n (c * 2 ^ j) (mul-pos C (pow_pos j)), unit, step)

  pub grid-most : grid f a c ≤ 2 ^ (prec f + k)
  grid-most = le_trans (mul-le-mul (kept-le (prec f) n c) (pow_mono j-le)) (le_of_eq (sym (pow-add 2 (prec f) k)))

  pub grid-fine : prec f + k < low f + suc (emax f) → grid f a c < overflow f
  grid-fine fine = lt_of_le_of_lt grid-most (pow-lt fine)

-- ---- of a fraction a / h, with a in units
pub record Rounded (f : Format) (k : ℕ) (x : Float) (s : Bool) (a h : ℕ) : Type 0 where
  pub size : ℕ
  pub value : HasValue x s size (2 ^ low f)
  pub under : size * h ≤ a + 2 ^ k * h
  pub over : a ≤ size * h + 2 ^ k * h

-- the units cancel
module _ (u : ℕ) (U : 0 < u) where
  times : (a t h : ℕ) → a < t * h → a * u < t * (h * u)
  times a t h l = omega (arith, mul-lt-mul_of_pos_right l U)

  cancel-under : (g h a e : ℕ) → g * (h * u) ≤ a * u + e * (h * u) → g * h ≤ a + e * h
  cancel-under g h a e l = le_of_mul-le-mul_right {k = u} (omega arith) U

  cancel-over : (g h a e : ℕ) → a * u ≤ g * (h * u) + e * (h * u) → a ≤ g * h + e * h
  cancel-over g h a e l = le_of_mul-le-mul_right {k = u} (omega arith) U

pub rounded : (f : Format) (k : ℕ) (s : Bool) (a h : ℕ) → prec f + k < low f + suc (emax f) → 0 < h → a < 2 ^ (prec f + k) * h → Rounded f k (round f s a (h * 2 ^ low f)) s a h
rounded f k s a h fine H small =
    let c = h * 2 ^ low f in
    let U : 0 < 2 ^ low f = pow_pos (low f) in
    let C : 0 < c = mul-pos H U in
    let less : a * 2 ^ low f < 2 ^ (prec f + k) * c = times (2 ^ low f) U a (2 ^ (prec f + k)) h small in
    record {
      size = grid f a c;
      value = round-value f s a c (grid-fine f k a c C less fine);
      under = cancel-under (2 ^ low f) U (grid f a c) h a (2 ^ k) (grid-under f k a c C less);
      over = cancel-over (2 ^ low f) U (grid f a c) h a (2 ^ k) (grid-over f k a c C less);
    }
