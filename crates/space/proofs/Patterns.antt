-- The cell of a float from its bit pattern. What the proof of `number_of` cites.
use mathlib.Core.Path.{◌≡◌, refl, sym, ap, ◌∙◌, subst}
use mathlib.Core.Bool.{Bool, true, false, not, cond, true≢false}
use Prim.Native.Nat.{ℕ, zero, suc, ◌+◌, ◌-◌, ◌*◌, ◌/◌, ◌%◌, ◌^◌, ◌≤◌, ◌<◌}
use native.Mathlib.Nat.{le_trans, le_of_eq, lt_irrefl, lt_of_lt_of_le, not-le_of_lt, le-div_iff_mul-le, div-lt_iff_lt-mul, div-eq_of_lt, mul-pos, mul-le-mul_right, mod-lt, mod-eq_of_lt, le-add_right}
use native.Mathlib.Omega.{arith}
use lib.IntN.{pos, neg_ℤ}
use lib.Dec.{T, leb, ltb, eqb, ltb→lt, lt→ltb, leb→le, nleb→lt, not_T, eqb→eq, lit≤, lit<}
use lib.Pow.{pow-add, pow_pos, pow_mono, shl_lt, shl-shr, shr-shr}
use lib.Bits.{bit_and, bit_or, and_mask, or_shifted_r}
use lib.Ieee.{Float, nan, inf, fin, binary64, up, down, odd, fits, is_nan, of_fields, of_bits, to_bits, ne}
use lib.Ieee.Fits.{down_pos}
use lib.Ieee.Bits.{is_true, is_false, of_bits-to_bits, to_bits-lt}
use lib.Ieee.Exact.{HasValue, odd_sign}
use lib.Ieee.Positive.{first_pos}
use lib.Ieee.Compare.{differs_from_itself}
use lib.Arith.{lt_of_le-ne}
use Rattle.space.specs.Floats.{whole, floor}
use Rattle.space.specs.Cells.{kept, cell_number}
use Rattle.space.proofs.Rounding.{floor-plus}
use Rattle.std.specs.Prelude.{None, Option, Some}

-- ---- the cell of a value g / d
at-cell : (x : Float) (g d k : ℕ) → 0 < d → HasValue x false g d → g / d ≡ k → k < 65536 → Some k ≡ cell_number 65536 (floor x)
at-cell x g d k D h e l =
    sym (ap (cell_number 65536) (floor-plus x g d D h ∙ ap (λ (n : ℕ). whole (pos n)) e) ∙ ap (λ (b : Bool). kept b k) (is_true (ltb k 65536) (lt→ltb k 65536 l)))

out-cell : (x : Float) (g d : ℕ) → 0 < d → HasValue x false g d → 65536 ≤ g / d → None ≡ cell_number 65536 (floor x)
out-cell x g d D h l =
    let k = g / d in
    sym (ap (cell_number 65536) (floor-plus x g d D h) ∙ ap (λ (b : Bool). kept b k) (is_false (ltb k 65536) (not_T (ltb k 65536) (λ (t : T (ltb k 65536)). not-le_of_lt (ltb→lt k 65536 t) l))))

below-zero : (n k : ℕ) → 1 ≤ k → None ≡ cell_number n (whole (neg_ℤ (pos k)))
below-zero n zero h = absurd (lt_irrefl 0 h)
below-zero n (suc k) h = refl

ceil-pos : (n d : ℕ) → 0 < n → 0 < d → 1 ≤ (n + (d - 1)) / d
ceil-pos n d N D = (le-div_iff_mul-le D).1 (go n d N D)
  where
    go : (n d : ℕ) → 0 < n → 0 < d → 1 * d ≤ n + (d - 1)
    go n d N D = omega arith

minus-cell : (x : Float) (g d : ℕ) → 0 < g → HasValue x true g d → None ≡ cell_number 65536 (floor x)
unfolding floor
minus-cell nan g d G h = absurd h
minus-cell (inf s) g d G h = absurd h
minus-cell (fin false m e) g d G h = absurd (true≢false (sym h.0))
minus-cell (fin true m e) g d G h =
    below-zero 65536 ((m * up e + (down e - 1)) / down e)
    (ceil-pos (m * up e) (down e) (first_pos (m * up e) d (subst (λ (z : ℕ). 0 < z) (sym h.1) (mul-pos G (down_pos e)))) (down_pos e))

-- ---- what fields stand for
top-cell : (s b : Bool) → None ≡ cell_number 65536 (floor (cond b (inf s) nan))
unfolding floor
top-cell s true = refl
top-cell s false = refl

either-cell : (a b s : Bool) (v : Float) → None ≡ cell_number 65536 (floor v) → None ≡ cell_number 65536 (floor (cond a (cond b (inf s) nan) v))
either-cell true b s v h = top-cell s b
either-cell false b s v h = h

fields-minus : (x t : ℕ) → 0 < x + t → None ≡ cell_number 65536 (floor (of_fields binary64 true x t))
unfolding of_fields
fields-minus zero t h = minus-cell (odd 53 true t 0 1074) (t * 1) (2 ^ 1074) (go t h) (odd_sign 53 true t 0 1074)
  where
    go : (t : ℕ) → 0 < 0 + t → 0 < t * 1
    go t h = omega arith
fields-minus (suc j) t h =
    either-cell (eqb (suc j) 2047) (eqb t 0) true (odd 53 true (2 ^ 52 + t) j 1074)
    (minus-cell (odd 53 true (2 ^ 52 + t) j 1074) ((2 ^ 52 + t) * 2 ^ j) (2 ^ 1074) (mul-pos (go t) (pow_pos j)) (odd_sign 53 true (2 ^ 52 + t) j 1074))
  where
    go : (t : ℕ) → 0 < 4503599627370496 + t
    go t = omega arith

pub with_lead : (t : ℕ) → t < 2 ^ 52 → 2 ^ 52 + t < 2 ^ 53
with_lead t h = omega arith

pub not_top : (j : ℕ) → suc j < 2047 → eqb (suc j) 2047 ≡ false
not_top j h = is_false (eqb (suc j) 2047) (not_T (eqb (suc j) 2047) (λ (e : T (eqb (suc j) 2047)). go j h (eqb→eq (suc j) 2047 e)))
  where
    go : (j : ℕ) → suc j < 2047 → suc j ≡ 2047 → ⊥
    go j h e = omega arith

fields_value : (j t : ℕ) → suc j < 2047 → HasValue (of_fields binary64 false (suc j) t) false ((2 ^ 52 + t) * 2 ^ j) (2 ^ 1074)
unfolding of_fields
fields_value j t h =
    subst (λ (a : Bool). HasValue (cond a (cond (eqb t 0) (inf false) nan) (odd 53 false (2 ^ 52 + t) j 1074)) false ((2 ^ 52 + t) * 2 ^ j) (2 ^ 1074)) (sym (not_top j h)) (odd_sign 53 false (2 ^ 52 + t) j 1074)

fields-low : (x t : ℕ) → t < 2 ^ 52 → x < 1023 → Some 0 ≡ cell_number 65536 (floor (of_fields binary64 false x t))
unfolding of_fields
fields-low zero t T52 h =
    let l : 52 + 0 ≤ 1074 = lit≤ tt in
    at-cell (odd 53 false t 0 1074) (t * 1) (2 ^ 1074) 0 (pow_pos 1074) (odd_sign 53 false t 0 1074) (div-eq_of_lt (lt_of_lt_of_le (shl_lt 52 0 T52) (pow_mono l))) (lit< tt)
fields-low (suc j) t T52 h =
    let l : 53 + j ≤ 1074 = omega arith in
    let k : suc j < 2047 = omega arith in
    at-cell (of_fields binary64 false (suc j) t) ((2 ^ 52 + t) * 2 ^ j) (2 ^ 1074) 0 (pow_pos 1074) (fields_value j t k) (div-eq_of_lt (lt_of_lt_of_le (shl_lt 53 j (with_lead t T52)) (pow_mono l))) (lit< tt)

join : (j : ℕ) → j ≤ 1074 → j + (1074 - j) ≡ 1074
join j h = omega arith

pub shifted_down : (q j : ℕ) → j ≤ 1074 → q / 2 ^ (1074 - j) ≡ q * 2 ^ j / 2 ^ 1074
shifted_down q j h = ap (λ (k : ℕ). k / 2 ^ (1074 - j)) (sym (shl-shr q j)) ∙ shr-shr (q * 2 ^ j) j (1074 - j) ∙ ap (λ (k : ℕ). q * 2 ^ j / 2 ^ k) (join j h)

fields-mid : (x t : ℕ) → t < 2 ^ 52 → 1023 ≤ x → x < 1039 → Some ((2 ^ 52 + t) / 2 ^ (1075 - x)) ≡ cell_number 65536 (floor (of_fields binary64 false x t))
fields-mid zero t T52 g h = absurd (omega arith)
fields-mid (suc j) t T52 g h =
    let q = 2 ^ 52 + t in
    let k : suc j < 2047 = omega arith in
    let l : 53 + j ≤ 1090 = omega arith in
    let i : j ≤ 1074 = omega arith in
    let s : 1075 - suc j ≡ 1074 - j = omega arith in
    let e : q / 2 ^ (1075 - suc j) ≡ q * 2 ^ j / 2 ^ 1074 = ap (λ (n : ℕ). q / 2 ^ n) s ∙ shifted_down q j i in
    let m : q * 2 ^ j / 2 ^ 1074 < 65536 = (div-lt_iff_lt-mul (pow_pos 1074)).1 (lt_of_lt_of_le (shl_lt 53 j (with_lead t T52)) (pow_mono l)) in
    at-cell (of_fields binary64 false (suc j) t) (q * 2 ^ j) (2 ^ 1074) (q / 2 ^ (1075 - suc j)) (pow_pos 1074) (fields_value j t k) (sym e) (subst (λ (n : ℕ). n < 65536) (sym e) m)

fields-high : (x t : ℕ) → 1039 ≤ x → None ≡ cell_number 65536 (floor (of_fields binary64 false x t))
unfolding of_fields
fields-high zero t g = absurd (omega arith)
fields-high (suc j) t g =
    let v = odd 53 false (2 ^ 52 + t) j 1074 in
    let l : 1090 ≤ 52 + j = omega arith in
    either-cell (eqb (suc j) 2047) (eqb t 0) false v
    (out-cell v ((2 ^ 52 + t) * 2 ^ j) (2 ^ 1074) (pow_pos 1074) (odd_sign 53 false (2 ^ 52 + t) j 1074)
    ((le-div_iff_mul-le (pow_pos 1074)).1 (le_trans (pow_mono l) (le_trans (le_of_eq (pow-add 2 52 j)) (mul-le-mul_right (2 ^ j) (le-add_right (2 ^ 52) t))))))

-- ---- a pattern's fields
pub of_bits_is : (b : ℕ) → of_bits binary64 b ≡ of_fields binary64 (leb (2 ^ 63) b) (b % 2 ^ 63 / 2 ^ 52) (b % 2 ^ 52)
unfolding of_bits
of_bits_is b = refl

plus-fields : (b : ℕ) → b < 2 ^ 63 → of_bits binary64 b ≡ of_fields binary64 false (b / 2 ^ 52) (b % 2 ^ 52)
plus-fields b h =
    of_bits_is b
    ∙ ap (λ (s : Bool). of_fields binary64 s (b % 2 ^ 63 / 2 ^ 52) (b % 2 ^ 52)) (is_false (leb (2 ^ 63) b) (not_T (leb (2 ^ 63) b) (λ (t : T (leb (2 ^ 63) b)). not-le_of_lt h (leb→le (2 ^ 63) b t))))
    ∙ ap (λ (r : ℕ). of_fields binary64 false (r / 2 ^ 52) (b % 2 ^ 52)) (mod-eq_of_lt h)

pub le→leb : (m n : ℕ) → m ≤ n → T (leb m n)
le→leb m n l = go (leb m n) (nleb→lt m n)
  where
    go : (t : Bool) → (T (not t) → n < m) → T t
    go true k = tt
    go false k = absurd (not-le_of_lt (k tt) l)

minus-fields : (b : ℕ) → 2 ^ 63 ≤ b → of_bits binary64 b ≡ of_fields binary64 true (b % 2 ^ 63 / 2 ^ 52) (b % 2 ^ 52)
minus-fields b h = of_bits_is b ∙ ap (λ (s : Bool). of_fields binary64 s (b % 2 ^ 63 / 2 ^ 52) (b % 2 ^ 52)) (is_true (leb (2 ^ 63) b) (le→leb (2 ^ 63) b h))

some-field : (b : ℕ) → 2 ^ 63 < b → b < 2 ^ 64 → 0 < b % 2 ^ 63 / 2 ^ 52 + b % 2 ^ 52
some-field b g h = omega arith

pub digits_are : (b : ℕ) → bit_or (bit_and b (2 ^ 52 - 1)) (2 ^ 52) ≡ 2 ^ 52 + b % 2 ^ 52
digits_are b = ap (λ (k : ℕ). bit_or k (2 ^ 52)) (and_mask b 52) ∙ or_shifted_r 1 52 (b % 2 ^ 52) (mod-lt b (pow_pos 52))

-- ---- what `number_of` asks
pub no_nan : (x : Float) → ne x x ≡ false → T (not (is_nan x))
unfolding is_nan ne
no_nan nan h = absurd (true≢false h)
no_nan (inf s) h = tt
no_nan (fin s m e) h = tt

pub nan-out : (x : Float) → ne x x ≡ true → None ≡ cell_number 65536 (floor x)
unfolding floor
nan-out x h = sym (ap (λ (y : Float). cell_number 65536 (floor y)) (differs_from_itself x (subst T (sym h) tt)))

zero_is : Some 0 ≡ cell_number 65536 (floor (of_bits binary64 (2 ^ 63)))
unfolding of_bits floor
zero_is = refl

module _ (x : Float) (F : T (fits binary64 x)) where
  abbrev b : ℕ
  b = to_bits binary64 x

  back : of_bits binary64 b ≡ x
  back = of_bits-to_bits binary64 x F

  of-fields : (s : Bool) (e t : ℕ) (r : Option ℕ) → of_bits binary64 b ≡ of_fields binary64 s e t → r ≡ cell_number 65536 (floor (of_fields binary64 s e t)) → r ≡ cell_number 65536 (floor x)
  of-fields s e t r h k = k ∙ ap (λ (y : Float). cell_number 65536 (floor y)) (sym h ∙ back)

  pub minus-zero : b ≡ 2 ^ 63 → Some 0 ≡ cell_number 65536 (floor x)
  minus-zero h = zero_is ∙ ap (λ (y : Float). cell_number 65536 (floor y)) (ap (of_bits binary64) (sym h) ∙ back)

  pub minus : 2 ^ 63 ≤ b → (b ≡ 2 ^ 63 → ⊥) → None ≡ cell_number 65536 (floor x)
  minus h k =
      of-fields true (b % 2 ^ 63 / 2 ^ 52) (b % 2 ^ 52) None (minus-fields b h)
      (fields-minus (b % 2 ^ 63 / 2 ^ 52) (b % 2 ^ 52) (some-field b (lt_of_le-ne h (λ (e : 2 ^ 63 ≡ b). k (sym e))) (to_bits-lt binary64 x F)))

  pub under_one : b < 2 ^ 63 → b / 2 ^ 52 < 1023 → Some 0 ≡ cell_number 65536 (floor x)
  under_one h k = of-fields false (b / 2 ^ 52) (b % 2 ^ 52) (Some 0) (plus-fields b h) (fields-low (b / 2 ^ 52) (b % 2 ^ 52) (mod-lt b (pow_pos 52)) k)

  pub too-high : b < 2 ^ 63 → 1039 ≤ b / 2 ^ 52 → None ≡ cell_number 65536 (floor x)
  too-high h k = of-fields false (b / 2 ^ 52) (b % 2 ^ 52) None (plus-fields b h) (fields-high (b / 2 ^ 52) (b % 2 ^ 52) k)

  pub shifted : b < 2 ^ 63 → 1023 ≤ b / 2 ^ 52 → b / 2 ^ 52 < 1039 → Some (bit_or (bit_and b (2 ^ 52 - 1)) (2 ^ 52) / 2 ^ (1075 - b / 2 ^ 52)) ≡ cell_number 65536 (floor x)
  shifted h g k =
      let r = (2 ^ 52 + b % 2 ^ 52) / 2 ^ (1075 - b / 2 ^ 52) in
      ap (λ (q : ℕ). Some (q / 2 ^ (1075 - b / 2 ^ 52))) (digits_are b)
      ∙ of-fields false (b / 2 ^ 52) (b % 2 ^ 52) (Some r) (plus-fields b h) (fields-mid (b / 2 ^ 52) (b % 2 ^ 52) (mod-lt b (pow_pos 52)) g k)
