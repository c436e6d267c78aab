-- Numbers of a list of bytes, and the bit patterns of f64.
use mathlib.Core.Path.{◌≡◌, refl, sym, ap, ◌∙◌}
use mathlib.Core.Bool.{Bool, true, false, ◌&&◌, not, cond}
use mathlib.Core.List.{List, [], ◌∷◌, ◌++◌}
use Prim.Native.Nat.{ℕ, zero, suc, ◌+◌, ◌-◌, ◌*◌, ◌/◌, ◌%◌, ◌≤◌, ◌<◌}
use native.Mathlib.Nat.{mul-le-mul, le_of_suc-le-suc, not-suc-le-zero}
use native.Mathlib.Numerals.{add-one}
use native.Mathlib.Omega.{arith}
use lib.Dec.{T, eqb, leb, ltb}
use lib.Ieee.{Float, nan, binary64, of_bits, of_fields, nan_bits, div}
use lib.ListN.{length, get_or}
use borrow.Author.Tests.{eqb-true, eqb-false, ne_eqb, eq-eqb, not-true, lt-ltb, le-ltb}
use Rattle.slices.proofs.Tests.{and_l, and_r}
use Rattle.space.specs.Cells.{on_axis}
use Rattle.space.proofs.Literals.{zero_is}
use Rattle.survey.specs.Bytes.{number_at, f64_at, f64s_at}

-- four bytes, and eight of them as twice four
pub four : (bytes : List ℕ) (at a b c d : ℕ) → a ≡ get_or bytes at 0 → b ≡ get_or bytes (at + 1) 0 → c ≡ get_or bytes (at + 2) 0 → d ≡ get_or bytes (at + 3) 0
    → a + 256 * b + 65536 * (c + 256 * d) ≡ number_at bytes 4 at
unfolding number_at
four bytes at a b c d ea eb ec ed =
    let e₁ : at + 1 ≡ suc at = add-one at in
    let e₂ : at + 2 ≡ suc (suc at) = omega arith in
    let e₃ : at + 3 ≡ suc (suc (suc at)) = omega arith in
    omega (arith, ea, eb ∙ ap (λ (i : ℕ). get_or bytes i 0) e₁, ec ∙ ap (λ (i : ℕ). get_or bytes i 0) e₂, ed ∙ ap (λ (i : ℕ). get_or bytes i 0) e₃)

pub eight : (bytes : List ℕ) (at a b : ℕ) → a ≡ number_at bytes 4 at → b ≡ number_at bytes 4 (at + 4) → a + 4294967296 * b ≡ number_at bytes 8 at
eight bytes at a b ea eb =
    let e : at + 4 ≡ suc (suc (suc (suc at))) = omega arith in
    twice (eb ∙ ap (number_at bytes 4) e)
  where
    twice : b ≡ number_at bytes 4 (suc (suc (suc (suc at)))) → a + 4294967296 * b ≡ number_at bytes 8 at
    twice f = unfold number_at in omega (arith, ea, f)

-- ---- a NaN's pattern

pub no_ones : (p : ℕ) → (p % 9223372036854775808 / 4503599627370496 ≡ 2047 → ⊥) → false ≡ nan_bits binary64 p
unfolding nan_bits
no_ones p h = sym (ap (λ (t : Bool). t && not (eqb (p % 4503599627370496) 0)) (ne_eqb (p % 9223372036854775808 / 4503599627370496) 2047 h))

pub all_ones : (p : ℕ) → p % 9223372036854775808 / 4503599627370496 ≡ 2047 → not (eqb (p % 4503599627370496) 0) ≡ nan_bits binary64 p
unfolding nan_bits
all_ones p h = sym (ap (λ (t : Bool). t && not (eqb (p % 4503599627370496) 0)) (eq-eqb (p % 9223372036854775808 / 4503599627370496) 2047 h))

fields_nan : (s : Bool) (x t : ℕ) → x ≡ 2047 → eqb t 0 ≡ false → of_fields binary64 s x t ≡ nan
fields_nan s x t e h = ap (λ (y : ℕ). of_fields binary64 s y t) e ∙ ones
  where
    ones : of_fields binary64 s 2047 t ≡ nan
    ones = unfold of_fields in rw h

pub nan-of : (p : ℕ) → nan_bits binary64 p ≡ true → of_bits binary64 p ≡ nan
unfolding nan_bits of_bits
nan-of p h =
    fields_nan (leb 9223372036854775808 p) (p % 9223372036854775808 / 4503599627370496) (p % 4503599627370496)
    (eqb-true (p % 9223372036854775808 / 4503599627370496) 2047 (and_l (eqb (p % 9223372036854775808 / 4503599627370496) 2047) (not (eqb (p % 4503599627370496) 0)) h))
    (not-true (eqb (p % 4503599627370496) 0) (and_r (eqb (p % 9223372036854775808 / 4503599627370496) 2047) (not (eqb (p % 4503599627370496) 0)) h))

pub made-nan : div binary64 (of_bits binary64 0) (of_bits binary64 0) ≡ nan
unfolding of_bits div
made-nan = refl

pub no_nan : (t : Bool) → t ≡ false → T (not t)
no_nan t e = rw e tt

-- ---- many numbers

pub row-bytes : (rows axes : ℕ) → rows < 4294967296 → axes ≤ 3 → rows * axes ≤ 12884901885
row-bytes rows axes h k = let a : rows ≤ 4294967295 = omega arith in mul-le-mul a k

pub f64s-length : (bytes : List ℕ) (n at : ℕ) → length (f64s_at bytes n at) ≡ n
unfolding f64s_at
f64s-length bytes zero at = refl
f64s-length bytes (suc n) at = ap suc (f64s-length bytes n (at + 8))

pub f64s-at : (bytes : List ℕ) (d : Float) (n at i : ℕ) → i < n → get_or (f64s_at bytes n at) i d ≡ f64_at bytes (at + 8 * i)
unfolding f64s_at
f64s-at bytes d zero at i h = absurd (not-suc-le-zero h)
f64s-at bytes d (suc n) at zero h = ap (f64_at bytes) (omega arith)
f64s-at bytes d (suc n) at (suc i) h = f64s-at bytes d n (at + 8) i (le_of_suc-le-suc h) ∙ ap (f64_at bytes) (omega arith)

-- ---- an entry on an axis, or past the axes

pub entry-off : (a d e : ℕ) (x : Float) → d ≡ e → d ≤ a → of_bits binary64 0 ≡ on_axis (ltb a e) x
entry-off a d e x same h = zero_is ∙ sym (ap (λ (t : Bool). on_axis t x) (le-ltb a e (omega arith)))

pub entry-on : (a d e : ℕ) (y x : Float) → d ≡ e → a < d → y ≡ x → y ≡ on_axis (ltb a e) x
entry-on a d e y x same h is = is ∙ sym (ap (λ (t : Bool). on_axis t x) (lt-ltb a e (omega arith)))
