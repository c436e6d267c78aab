-- A number's size, by two tests: equal to 0, and below 0.
use mathlib.Core.Path.{◌≡◌, refl, sym, ap, ◌∙◌, subst}
use mathlib.Core.Bool.{Bool, true, false, true≢false}
use Prim.Native.Nat.{ℕ, zero, suc, ◌+◌, ◌*◌, ◌^◌, ◌≤◌, ◌<◌}
use native.Mathlib.Nat.{mul-pos, lt_irrefl, mul-one, one-mul}
use native.Mathlib.Omega.{arith}
use lib.IntN.{ℤ, pos, negsuc}
use lib.Dec.{eqb}
use lib.Pow.{pow_pos}
use lib.Ieee.{Float, nan, inf, fin, binary64, up, down, lt, eq, neg, fits, of_bits}
use lib.Ieee.Fits.{up_pos}
use lib.Ieee.Exact.{HasValue}
use borrow.Author.Tests.{eqb-true, ltb-true, ltb-false, eq-eqb}
use Rattle.slices.proofs.Tests.{and_l, both, clash}
use Rattle.space.specs.Floats.{size_of}
use Rattle.space.proofs.Literals.{zero_is}

-- a zero that its format holds is written with the exponent 0
two_up : (k : ℕ) → 2 ^ suc k * 1 ≡ 1 → ⊥
two_up k e = omega (arith, pow_pos k)

zero_exponent : (e : ℤ) → eqb (up e * down e) 1 ≡ true → e ≡ pos 0
zero_exponent (pos zero) h = refl
zero_exponent (pos (suc k)) h = absurd (two_up k (eqb-true _ _ h))
zero_exponent (negsuc k) h = absurd (two_up k (mul-one _ ∙ sym (one-mul (2 ^ suc k)) ∙ eqb-true _ _ h))

first : (m : ℕ) → 0 < suc m
first m = omega arith

no-digits : (m : ℕ) (e : ℤ) → m * up e * 1 ≡ 0 → m ≡ 0
no-digits zero e h = refl
no-digits (suc m) e h = absurd (lt_irrefl 0 (subst (λ n. 0 < n) (sym (mul-one _) ∙ h) (mul-pos (first m) (up_pos e))))

at_zero : (x : Float) → fits binary64 x ≡ true → eq x (fin false 0 (pos 0)) ≡ true → fin false 0 (pos 0) ≡ size_of x
unfolding eq fits size_of
at_zero nan f h = absurd (true≢false (sym h))
at_zero (inf s) f h = absurd (true≢false (sym h))
at_zero (fin s zero e) f h = ap (λ z. fin false 0 z) (sym (zero_exponent e f))
at_zero (fin s (suc m) e) f h =
    let z = no-digits (suc m) e (eqb-true _ _ (and_l _ _ h) ∙ native.Mathlib.Nat.zero-mul (down e)) in absurd (omega arith)

minus : (x : Float) → lt x (fin false 0 (pos 0)) ≡ true → neg x ≡ size_of x
unfolding lt neg size_of
minus nan h = refl
minus (inf true) h = refl
minus (inf false) h = absurd (true≢false (sym h))
minus (fin true m e) h = refl
minus (fin false m e) h = absurd (omega (arith, ltb-true (m * up e * 1) (0 * down e) h))

plus : (x : Float) → eq x (fin false 0 (pos 0)) ≡ false → lt x (fin false 0 (pos 0)) ≡ false → x ≡ size_of x
unfolding lt eq size_of
plus nan g h = refl
plus (inf true) g h = absurd (true≢false h)
plus (inf false) g h = refl
plus (fin false m e) g h = refl
plus (fin true m e) g h =
    let z : m * up e * 1 + 0 * down e ≤ 0 = ltb-false _ _ h in
    let n : m * up e * 1 ≡ 0 * down e = omega arith in
    absurd (clash (both (eq-eqb _ _ n) (eq-eqb (m * up e * 1) 0 (omega arith))) g)

-- and on the literal's bit pattern
pub size-zero : (x : Float) → fits binary64 x ≡ true → eq x (of_bits binary64 0) ≡ true → of_bits binary64 0 ≡ size_of x
size-zero x f h = zero_is ∙ at_zero x f (rw zero_is at h)

pub size-minus : (x : Float) → lt x (of_bits binary64 0) ≡ true → neg x ≡ size_of x
size-minus x h = minus x (rw zero_is at h)

pub size-plus : (x : Float) → eq x (of_bits binary64 0) ≡ false → lt x (of_bits binary64 0) ≡ false → x ≡ size_of x
size-plus x g h = plus x (rw zero_is at g) (rw zero_is at h)

-- a size has the value with its sign off
pub size-value : (x : Float) (s : Bool) (a u : ℕ) → HasValue x s a u → HasValue (size_of x) false a u
unfolding size_of
size-value nan s a u h = absurd h
size-value (inf z) s a u h = absurd h
size-value (fin z m e) s a u h = (refl, h.1)
