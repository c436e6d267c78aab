-- The value of a float by its bits, and its floor.
use mathlib.Core.Path.{◌≡◌, refl, sym, ap, ◌∙◌, subst}
use mathlib.Core.Bool.{Bool, true, false, not, cond, true≢false}
use Prim.Native.Nat.{ℕ, zero, suc, ◌+◌, ◌-◌, ◌*◌, ◌/◌, ◌%◌, ◌^◌, ◌≤◌, ◌<◌}
use native.Mathlib.Nat.{lt_of_lt_of_le, mul-one, mul_assoc}
use native.Mathlib.Omega.{arith}
use lib.IntN.{pos}
use lib.Dec.{T, leb, ltb, eqb}
use lib.Pow.{pow-add, pow_pos, pow_mono, shl_lt}
use lib.Ieee.{Float, nan, inf, fin, Format, binary64, prec, emax, low, up, down, odd, units, round, neg, ne, fits, of_int, of_fields, to_bits}
use lib.Ieee.Fits.{down_pos, round-fits, round_is}
use lib.Ieee.Bits.{of_bits-to_bits}
use lib.Ieee.Exact.{HasValue, odd_sign, round_exact}
use lib.Ieee.Back.{whole_unique}
use lib.Ieee.Nearest.{div_same}
use borrow.Author.Tests.{le-leb, lt-leb}
use Rattle.space.proofs.Patterns.{of_bits_is, not_top, with_lead}
use Rattle.extents.specs.Floors.{quotient_down, quotient_up, floor_of, units_in, units_of, whole_under, whole_over}
use Rattle.extents.proofs.Wholes.{under_whole, over-whole, over-same}

-- ---- the sign of a rounded number
neg-odd : (d : ℕ) (s : Bool) (q k l : ℕ) → neg (odd d s q k l) ≡ odd d (not s) q k l
unfolding odd neg
neg-odd d s zero k l = refl
neg-odd d s (suc q) k l = refl

neg-cond : (b s : Bool) (x y : Float) → neg x ≡ y → neg (cond b x (inf s)) ≡ cond b y (inf (not s))
unfolding neg
neg-cond true s x y e = e
neg-cond false s x y e = refl

neg-units : (f : Format) (s : Bool) (q k : ℕ) → neg (units f s q k) ≡ units f (not s) q k
unfolding units
neg-units f s q k =
    neg-cond (ltb (q * 2 ^ k) (2 ^ (low f + suc (emax f)))) s (odd (suc (prec f)) s q k (low f)) (odd (suc (prec f)) (not s) q k (low f)) (neg-odd (suc (prec f)) s q k (low f))

pub neg-round : (f : Format) (s : Bool) (n d : ℕ) → neg (round f s n d) ≡ round f (not s) n d
neg-round f s n d = ap neg (round_is f s n d) ∙ neg-units f s _ _ ∙ sym (round_is f (not s) n d)

-- ---- the floor of a value g / c
abbrev rounded : Bool → ℕ → ℕ → ℕ
rounded false g c = quotient_down g c
rounded true g c = quotient_up g c

pub floor-value : (x : Float) (s : Bool) (g c : ℕ) → 0 < c → HasValue x s g c → floor_of x ≡ round binary64 s (rounded s g c) 1
unfolding floor_of
floor-value nan s g c C h = absurd h
floor-value (inf t) s g c C h = absurd h
floor-value (fin false m e) false g c C h = ap (λ k. round binary64 false k 1) (div_same (m * up e) (down e) g c (down_pos e) C h.1)
floor-value (fin true m e) true g c C h = ap (λ k. round binary64 true k 1) (over-same (m * up e) (down e) g c (down_pos e) C h.1)
floor-value (fin false m e) true g c C h = absurd (true≢false (sym h.0))
floor-value (fin true m e) false g c C h = absurd (true≢false h.0)

-- ---- the value of a bit pattern
fields_value : (s : Bool) (e t : ℕ) → e < 2047 → HasValue (of_fields binary64 s e t) s (units_in e t) (2 ^ 1074)
unfolding of_fields
fields_value s zero t h = subst (λ g. HasValue (odd 53 s t 0 1074) s g (2 ^ 1074)) (mul-one t) (odd_sign 53 s t 0 1074)
fields_value s (suc j) t h =
    subst (λ a. HasValue (cond a (cond (eqb t 0) (inf s) nan) (odd 53 s (2 ^ 52 + t) j 1074)) s ((2 ^ 52 + t) * 2 ^ j) (2 ^ 1074)) (sym (not_top j h)) (odd_sign 53 s (2 ^ 52 + t) j 1074)

-- the infinity and the NaNs: the exponent's field is all ones
top-floor : (a b s : Bool) (v : Float) → a ≡ true → cond a (cond b (inf s) nan) v ≡ floor_of (cond a (cond b (inf s) nan) v)
unfolding floor_of
top-floor true true s v h = refl
top-floor true false s v h = refl
top-floor false b s v h = absurd (true≢false (sym h))

top-fields : (s : Bool) (t : ℕ) → of_fields binary64 s 2047 t ≡ floor_of (of_fields binary64 s 2047 t)
unfolding of_fields
top-fields s t = top-floor true (eqb t 0) s (odd 53 s (2 ^ 52 + t) 2046 1074) refl

-- ---- from 2 ^ 52 on every number is whole
whole-value : (x : Float) (s : Bool) (g c k : ℕ) → 0 < c → g ≡ k * c → HasValue x s g c → HasValue x s k 1
whole-value nan s g c k C e h = h
whole-value (inf t) s g c k C e h = h
whole-value (fin t m d) s g c k C e h = (h.0, mul-one (m * up d) ∙ native.Mathlib.Nat.eq_of_mul-eq-mul_right c C (m * up d) (k * down d) (h.1 ∙ ap (λ n. n * down d) e ∙ native.Mathlib.Nat.mul_right_comm k c (down d)))

big : (x : Float) (s : Bool) (j t : ℕ) → T (fits binary64 x) → t < 2 ^ 52 → 1074 ≤ j → suc j < 2047 → HasValue x s ((2 ^ 52 + t) * 2 ^ j) (2 ^ 1074) → x ≡ floor_of x
big x s j t F T52 g h v =
    let q = 2 ^ 52 + t in
    let k = q * 2 ^ (j - 1074) in
    let split : q * 2 ^ j ≡ k * 2 ^ 1074 = ap (λ n. q * 2 ^ n) (sym (back j g)) ∙ ap (λ n. q * n) (pow-add 2 (j - 1074) 1074) ∙ sym (mul_assoc q (2 ^ (j - 1074)) (2 ^ 1074)) in
    let own : HasValue x s k 1 = whole-value x s (q * 2 ^ j) (2 ^ 1074) k (pow_pos 1074) split v in
    let under_top : q * 2 ^ j < 2 ^ 2098 = lt_of_lt_of_le (shl_lt 53 j (with_lead t T52)) (pow_mono {i = 53 + j} {j = 2098} (top j h)) in
    let kept : HasValue (round binary64 s k 1) s k 1 = round_exact binary64 s k 1 q j (lib.Dec.lit< tt) (with_lead t T52) under_top (sym split ∙ sym (mul-one (q * 2 ^ j))) in
    whole_unique binary64 x (round binary64 s k 1) s k F (round-fits binary64 s k 1) own kept
    ∙ ap (λ n. round binary64 s n 1) (sym (all s k))
    ∙ sym (floor-value x s k 1 (lib.Dec.lit< tt) own)
  where
    back : (j : ℕ) → 1074 ≤ j → j - 1074 + 1074 ≡ j
    back j h = omega arith

    top : (j : ℕ) → suc j < 2047 → 53 + j ≤ 2098
    top j h = omega arith

    all : (s : Bool) (k : ℕ) → rounded s k 1 ≡ k
    all false k = ap (λ n. n / 1) (sym (mul-one k)) ∙ under_whole k 1 (lib.Dec.lit< tt)
    all true k = ap (λ n. quotient_up n 1) (sym (mul-one k)) ∙ over-whole k 1 (lib.Dec.lit< tt)

big-fields : (x : Float) (s : Bool) (e t : ℕ) → T (fits binary64 x) → x ≡ of_fields binary64 s e t → t < 2 ^ 52 → 1075 ≤ e → e ≤ 2047 → x ≡ floor_of x
big-fields x s zero t F i T52 g h = absurd (omega arith)
big-fields x s (suc j) t F i T52 g h = go (native.Mathlib.Decide.dec_lt (suc j) 2047)
  where
    go : Dec (suc j < 2047) → x ≡ floor_of x
    go (yes l) = big x s j t F T52 (omega arith) l (subst (λ y. HasValue y s ((2 ^ 52 + t) * 2 ^ j) (2 ^ 1074)) (sym i) (fields_value s (suc j) t l))
    go (no n) =
        let e : suc j ≡ 2047 = omega arith in
        let y : x ≡ of_fields binary64 s 2047 t = i ∙ ap (λ k. of_fields binary64 s k t) e in
        y ∙ top-fields s t ∙ sym (ap floor_of y)

-- ---- a float that binary64 holds, by its own bits
module _ (x : Float) (F : T (fits binary64 x)) where
  abbrev bits : ℕ
  bits = to_bits binary64 x

  abbrev sign : Bool
  sign = leb (2 ^ 63) bits

  abbrev size : ℕ
  size = bits % 2 ^ 63

  fields-are : x ≡ of_fields binary64 sign (size / 2 ^ 52) (size % 2 ^ 52)
  fields-are = sym (of_bits-to_bits binary64 x F) ∙ of_bits_is bits ∙ ap (λ t. of_fields binary64 sign (size / 2 ^ 52) t) (low-digits bits)
    where
      low-digits : (b : ℕ) → b % 4503599627370496 ≡ b % 9223372036854775808 % 4503599627370496
      low-digits b = omega arith

  digits-under : size % 2 ^ 52 < 2 ^ 52
  digits-under = native.Mathlib.Nat.mod-lt size (pow_pos 52)

  field-under : (b : ℕ) → b % 9223372036854775808 / 4503599627370496 ≤ 2047
  field-under b = omega arith

  value-is : size / 2 ^ 52 < 2047 → HasValue x sign (units_of size) (2 ^ 1074)
  unfolding units_of
  value-is h = subst (λ y. HasValue y sign (units_in (size / 2 ^ 52) (size % 2 ^ 52)) (2 ^ 1074)) (sym fields-are) (fields_value sign (size / 2 ^ 52) (size % 2 ^ 52) h)

  pub floor-big : 1075 ≤ size / 2 ^ 52 → x ≡ floor_of x
  floor-big g = big-fields x sign (size / 2 ^ 52) (size % 2 ^ 52) F fields-are digits-under g (field-under bits)

  small-field : (e : ℕ) → e < 1075 → e < 2047
  small-field e h = omega arith

  pub floor-under : size / 2 ^ 52 < 1075 → bits < 2 ^ 63 → (k : ℕ) → k ≡ whole_under size → of_int binary64 (pos k) ≡ floor_of x
  unfolding whole_under of_int
  floor-under h p k e =
      let s : sign ≡ false = lt-leb (2 ^ 63) bits p in
      ap (λ n. round binary64 false n 1) e
      ∙ sym (floor-value x false (units_of size) (2 ^ 1074) (pow_pos 1074) (subst (λ b. HasValue x b (units_of size) (2 ^ 1074)) s (value-is (small-field (size / 2 ^ 52) h))))

  pub floor-over : size / 2 ^ 52 < 1075 → 2 ^ 63 ≤ bits → (k : ℕ) → k ≡ whole_over size → neg (of_int binary64 (pos k)) ≡ floor_of x
  unfolding whole_over of_int
  floor-over h p k e =
      let s : sign ≡ true = le-leb (2 ^ 63) bits p in
      neg-round binary64 false k 1
      ∙ ap (λ n. round binary64 true n 1) e
      ∙ sym (floor-value x true (units_of size) (2 ^ 1074) (pow_pos 1074) (subst (λ b. HasValue x b (units_of size) (2 ^ 1074)) s (value-is (small-field (size / 2 ^ 52) h))))

pub floor-nan : (x : Float) → ne x x ≡ true → x ≡ floor_of x
unfolding floor_of
floor-nan x h = let n = lib.Ieee.Compare.differs_from_itself x (subst T (sym h) tt) in n ∙ sym (ap floor_of n)
