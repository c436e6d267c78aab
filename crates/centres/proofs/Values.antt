-- The numbers of the float test in units: the side, the tolerance, an anchor and a half, and a box's displacement.
use mathlib.Core.Path.{◌≡◌, refl, sym, ap, ◌∙◌, subst}
use mathlib.Core.Bool.{Bool, true, false, false≢true}
use Prim.Native.Nat.{ℕ, ◌+◌, ◌-◌, ◌*◌, ◌^◌, ◌≤◌, ◌<◌}
use native.Mathlib.Nat.{le_trans, lt_of_lt_of_le, mul-one, one-mul, mul_comm, mul_assoc, mul_left_comm, mul-le-mul_right, mul-le-mul_left, le_of_mul-le-mul_right, mul-lt-mul_of_pos_right, mul-pos}
use native.Mathlib.Omega.{arith}
use lib.IntN.{pos, negsuc}
use lib.Dec.{T, lit≤, lit<}
use lib.Pow.{pow_pos, pow_mono}
use lib.Ieee.{Float, nan, inf, fin, Format, binary64, low, up, down, round, add, sub, neg, of_int, fits, le}
use lib.Ieee.Bits.{is_true}
use lib.Ieee.Fits.{div-fits}
use lib.Ieee.Exact.{HasValue, round_exact}
use lib.Ieee.Back.{round_whole}
use lib.Ieee.Scale.{round_same}
use lib.Ieee.Positive.{num, den, den_pos, own_value, le→cross}
use Rattle.rounding.proofs.Close.{rounded}
use Rattle.rounding.proofs.Sums.{At, add_at, sum-plus, add-near, neg-at}
use Rattle.rounding.proofs.Order.{values_of_le}
use Rattle.rounding.proofs.Units.{units}
use Rattle.space.specs.Floats.{size_of}
use Rattle.space.specs.Domain.{centre_known}
use Rattle.space.specs.Cells.{side}
use Rattle.space.proofs.Sizes.{size-value}
use Rattle.points.proofs.Sides.{Radius, radius-positive, tidy-least, tidy_most, side-value}
use Rattle.centres.specs.Centres.{half, tolerance}
use Rattle.centres.proofs.OneAxis.{Scale}

-- ---- a radius n / d of the domain, and the side at level l, with u units in 1
module _ (n d s p u e : ℕ) (D : 0 < d) (P : 0 < p) (deep : p ≤ 65536) (least : d ≤ n * 4) (most : n ≤ 1048576 * d) (U : u ≡ 268435456 * e) (h : s * (d * p) ≡ 2 * n * u) where
  side-units : 2 * u ≤ s * p * 4
  side-units = le_of_mul-le-mul_right {k = d} (omega (arith, mul-le-mul_right (2 * u) least)) D

  side-least : 2048 * e ≤ s
  side-least = omega (arith, side-units, mul-le-mul_left s deep)

  side-most : s * p ≤ 562949953421312 * e
  side-most = let a : s * p ≤ 2097152 * u = le_of_mul-le-mul_right {k = d} (omega (arith, mul-le-mul_right (2 * u) most)) D in omega arith

  side-one : s ≤ 562949953421312 * e
  side-one = omega (arith, side-most, mul-le-mul_left s P)

  side-part : (i : ℕ) → i < p → (2 * i + 1) * s ≤ 1125899906842624 * e
  side-part i I = omega (arith, side-most, mul-le-mul_right s I)

pub record Sided (f : Format) (e : ℕ) (x : Float) (l s : ℕ) : Type 0 where
  pub value : HasValue x false s (2 ^ low f)
  pub least : 2048 * e ≤ s
  pub most : s ≤ 562949953421312 * e
  pub part : (i : ℕ) → i < 2 ^ l → (2 * i + 1) * s ≤ 1125899906842624 * e

radius-least : (r : Float) → Radius r → den r ≤ num r * 4
radius-least r R = tidy-least (den r) (num r) (le→cross (fin false 1 (negsuc 1)) r tt (radius-positive r R) R.least)

radius-most : (r : Float) → Radius r → num r ≤ 1048576 * den r
radius-most r R = tidy_most (den r) (num r) (le→cross r (fin false 1 (pos 20)) (radius-positive r R) tt R.most)

pub sided : (e : ℕ) (r : Float) (l : ℕ) → 2 ^ low binary64 ≡ 268435456 * e → Radius r → l ≤ 16 → (s : ℕ) × Sided binary64 e (side r l) l s
sided e r l u R L =
    let n = units binary64 (side r l) false (2 * num r) (den r * 2 ^ l) (div-fits binary64 _ _) (side-value r l R L) in
    let s = n.0 in
    let deep : 2 ^ l ≤ 65536 = pow_mono L in (
      s,
      record {
        value = n.1;
        least = side-least (num r) (den r) s (2 ^ l) (2 ^ low binary64) e (den_pos r) (pow_pos l) deep (radius-least r R) (radius-most r R) u n.2;
        most = side-one (num r) (den r) s (2 ^ l) (2 ^ low binary64) e (den_pos r) (pow_pos l) deep (radius-least r R) (radius-most r R) u n.2;
        part = side-part (num r) (den r) s (2 ^ l) (2 ^ low binary64) e (den_pos r) (pow_pos l) deep (radius-least r R) (radius-most r R) u n.2;
      },
    )

-- ---- the tolerance, p / n rounded, lies between 2 ^ -20 and 2 ^ -19 where 257 * 2 ^ -28 ≤ p / n ≤ 511 * 2 ^ -28
pub record Tolerance (f : Format) (e : ℕ) (x : Float) (t : ℕ) : Type 0 where
  pub value : HasValue x false t (2 ^ low f)
  pub least : 256 * e ≤ t
  pub most : t ≤ 512 * e

module _ (u t p n e : ℕ) (N : 0 < n) (least : 257 * n ≤ 268435456 * p) (most : 268435456 * p ≤ 511 * n) (U : u ≡ 268435456 * e) where
  limit-least : p * u ≤ t * n + e * n → 256 * e ≤ t
  limit-least h = le_of_mul-le-mul_right {k = n} (omega (arith, mul-le-mul_right e least, ap (λ (x : ℕ). p * x) U)) N

  limit-most : t * n ≤ p * u + e * n → t ≤ 512 * e
  limit-most h = le_of_mul-le-mul_right {k = n} (omega (arith, mul-le-mul_right e most, ap (λ (x : ℕ). p * x) U)) N

fraction : (f : Format) (k e m : ℕ) → Scale f k e m → (p n : ℕ) → 0 < n → 257 * n ≤ 268435456 * p → 268435456 * p ≤ 511 * n → (t : ℕ) × Tolerance f e (round f false p n) t
fraction f k e m S p n N least most =
    let u = 2 ^ low f in
    let some : 0 < e = omega (arith, S.error, pow_pos k) in
    let r = rounded f k false (p * u) n S.fine N (omega (arith, S.top, ap (λ (x : ℕ). p * x) S.unit, mul-pos N some, mul-le-mul_right e most, ap (λ (x : ℕ). x * n) S.top)) in
    let off : e * n ≡ 2 ^ k * n = ap (λ (x : ℕ). x * n) S.error in
    let same : round f false p n ≡ round f false (p * u) (n * u) = round_same f false p n (p * u) (n * u) N (mul-pos N (pow_pos (low f))) (mul_left_comm p n u ∙ mul_comm n (p * u)) in (
      r.size,
      record {
        value = subst (λ (x : Float). HasValue x false r.size u) (sym same) r.value;
        least = limit-least u r.size p n e N least most S.unit (omega (arith, r.over, off));
        most = limit-most u r.size p n e N least most S.unit (omega (arith, r.under, off));
      },
    )

pub tolerant : (k e m : ℕ) → Scale binary64 k e m → (t : ℕ) × Tolerance binary64 e tolerance t
unfolding tolerance
tolerant k e m S = fraction binary64 k e m S _ _ (lit< tt) (lit≤ tt) (lit≤ tt)

-- ---- an anchor and a half: exact
doubled : (x : Float) (s : Bool) (n : ℕ) → HasValue x s n 1 → HasValue x s (2 * n) 2
doubled nan s n h = absurd h
doubled (inf t) s n h = absurd h
doubled (fin t m e) s n h = (h.0, twice (m * up e) n (down e) h.1)
  where
    twice : (p n d : ℕ) → p * 1 ≡ n * d → p * 2 ≡ 2 * n * d
    twice p n d h = omega (arith, mul_assoc 2 n d)

halves-exact : (n : ℕ) → n < 2 ^ 53 → HasValue (round binary64 false n 2) false n 2
halves-exact n h =
    round_exact binary64 false n 2 n 1073 (lit< tt) h
    (lt_of_lt_of_le (mul-lt-mul_of_pos_right h (pow_pos 1073)) (lit≤ tt))
    (sym (mul_assoc n (2 ^ 1073) 2))

small : (i : ℕ) → i < 65536 → 2 * i + 1 < 2 ^ 53
small i h = omega arith

pub half-value : HasValue half false 1 2
half-value = (refl, refl)

pub and-half : (i : ℕ) → i < 65536 → HasValue (add binary64 (of_int binary64 (pos i)) half) false (2 * i + 1) 2
unfolding of_int
and-half i h =
    let whole : HasValue (round binary64 false i 1) false i 1 = round_whole binary64 false i (le_trans (le_trans (native.Mathlib.Nat.le-suc i) h) (lit≤ tt)) in
    subst (λ (x : Float). HasValue x false (2 * i + 1) 2)
    (sym (add_at binary64 (round binary64 false i 1) half false false (2 * i) 1 2 (lit< tt) (doubled (round binary64 false i 1) false i whole) half-value ∙ sum-plus binary64 (2 * i) 1 2))
    (halves-exact (2 * i + 1) (small i h))

-- ---- the displacement
moved_up : (f : Format) (m c b : ℕ) (x : Float) (s : Bool) → HasValue x s c (2 ^ low f) → c ≤ b → b ≤ m → (v : ℕ) × At f m x v × (v ≤ m + b) × (m ≤ v + b)
moved_up f m c b x false h l r = (m + c, record { sign = false; size = c; value = h; moved = refl }, omega arith, omega arith)
moved_up f m c b x true h l r = (m - c, record { sign = true; size = c; value = h; moved = omega arith }, omega arith, omega arith)

pub record Placed (f : Format) (e m : ℕ) (x : Float) (d : ℕ) : Type 0 where
  pub is : At f m x d
  pub least : m ≤ d + 4785074604081153 * e
  pub most : d ≤ m + 4785074604081153 * e

module _ (f : Format) (k e m : ℕ) (S : Scale f k e m) where
  pub difference : (x y : Float) (s : Bool) (c r : ℕ) → HasValue x s c (2 ^ low f) → HasValue y false r (2 ^ low f) → c ≤ 16777216 * 2 ^ low f → r ≤ 1048576 * 2 ^ low f → (d : ℕ) × Placed f e m (sub f x y) d
  unfolding sub
  difference x y s c r h g C R =
      let some : 0 < e = omega (arith, S.error, pow_pos k) in
      let c-most : c ≤ 4503599627370496 * e = omega (arith, S.unit) in
      let r-most : r ≤ 281474976710656 * e = omega (arith, S.unit) in
      let v = moved_up f m c (4503599627370496 * e) x s h c-most (omega (arith, S.middle)) in
      let o = v.0 - r in
      let v-most = v.2 in
      let v-least = v.3 in
      let enough : r ≤ v.0 = omega (arith, S.middle) in
      let w : At f m (neg y) (m - r) = neg-at f m y (m + r) (m - r) (omega (arith, S.middle)) (record { sign = false; size = r; value = g; moved = refl }) in
      let a = add-near f k m S.fine (omega (arith, S.error, S.top, S.middle, some)) x (neg y) v.0 (m - r) o v.1 w (omega (arith, S.middle)) (omega (arith, S.top, some)) (omega (arith, S.top, some)) in (
        a.place,
        record {
          is = a.is;
          least = omega (arith, a.over, S.error);
          most = omega (arith, a.under, S.error);
        },
      )

-- a limit 2 ^ n, in units
power : (n u : ℕ) → HasValue (fin false 1 (pos n)) false (2 ^ n * u) u
power n u = (refl, ap (λ (x : ℕ). x * u) (one-mul (2 ^ n)) ∙ sym (mul-one (2 ^ n * u)))

-- a radius and a centre of the domain that their format holds, in units
pub radius-units : (r : Float) → Radius r → (n : ℕ) × HasValue r false n (2 ^ low binary64) × (n ≤ 1048576 * 2 ^ low binary64)
radius-units r R =
    let v = units binary64 r false (num r) (den r) R.held (own_value r (radius-positive r R)) in
    (v.0, v.1, values_of_le r (fin false 1 (pos 20)) v.0 (1048576 * 2 ^ low binary64) (2 ^ low binary64) (pow_pos (low binary64)) v.1 (power 20 (2 ^ low binary64)) (is_true (le r (fin false 1 (pos 20))) R.most))

pub centre-units : (c : Float) → fits binary64 c ≡ true → centre_known c ≡ true → (s : Bool) × (n : ℕ) × HasValue c s n (2 ^ low binary64) × (n ≤ 16777216 * 2 ^ low binary64)
unfolding size_of le
centre-units nan f h = absurd (false≢true h)
centre-units (inf s) f h = absurd (false≢true h)
centre-units (fin s m e) f h =
    let v = units binary64 (fin s m e) s (m * up e) (down e) (subst T (sym f) tt) (refl, refl) in
    (s, v.0, v.1, values_of_le (size_of (fin s m e)) (fin false 1 (pos 24)) v.0 (16777216 * 2 ^ low binary64) (2 ^ low binary64) (pow_pos (low binary64)) (size-value (fin s m e) s v.0 (2 ^ low binary64) v.1) (power 24 (2 ^ low binary64)) h)
