-- The step of a quotient rises with it, and says which level-16 cell its floor names.
use mathlib.Core.Path.{◌≡◌, refl, sym, ap, ◌∙◌, subst}
use mathlib.Core.Bool.{Bool, true, false, true≢false, false≢true}
use Prim.Native.Nat.{ℕ, zero, suc, zero-le, ◌+◌, ◌-◌, ◌*◌, ◌/◌, ◌≤◌, ◌<◌, min}
use native.Mathlib.Nat.{zero-div, zero-mul, mul-one, div-lt_iff_lt-mul, eq-zero-or-pos, mul-pos, le_trans, lt_of_mul-lt-mul_right, mul-lt-mul_of_pos_right}
use native.Mathlib.Omega.{arith}
use mathlib.Core.Logic.{◌⊎◌, inl, inr}
use lib.IntN.{ℤ, pos, negsuc, neg_ℤ}
use lib.Dec.{ltb, leb, eqb, lit≤}
use lib.Ieee.{Float, nan, inf, fin, binary64, up, down, round, le, lt, of_int}
use lib.Ieee.Exact.{HasValue}
use lib.Ieee.Back.{round_whole}
use lib.Ieee.Fits.{down_pos}
use lib.Ieee.Nearest.{div_mono}
use borrow.Author.Tests.{ltb-true, ltb-false, lt-ltb, leb-true, le-leb, lt-leb, eqb-true}
use Rattle.space.specs.Floats.{whole, floor, floor_ratio}
use Rattle.space.specs.Cells.{kept, cell_number}
use Rattle.space.proofs.Rounding.{ceil-zero as ceil-of-zero, ceil-back}
use Rattle.rounding.proofs.Order.{no_size}
use Rattle.slices.proofs.Tests.{and_l, and_r, same_test}
use Rattle.grids.specs.Ranges.{step_at, step_of}
use Rattle.grids.proofs.Compare.{Le, compared, compared-to}
use Rattle.std.specs.Prelude.{None, Some}

-- ---- floors of both signs
step-least : (k : ℕ) → 1 ≤ step_at (pos k)
step-least k = omega arith

step-most : (z : ℤ) → step_at z ≤ 65537
step-most (pos k) = omega arith
step-most (negsuc k) = omega arith

neg-most : (k : ℕ) → step_at (neg_ℤ (pos k)) ≤ 1
neg-most zero = omega arith
neg-most (suc k) = omega arith

neg-steps : (j k : ℕ) → (j ≡ 0 → k ≡ 0) → step_at (neg_ℤ (pos j)) ≤ step_at (neg_ℤ (pos k))
neg-steps zero k h = rw (h refl) (omega arith)
neg-steps (suc j) k h = omega arith

ceil-zero : (n d : ℕ) → 0 < d → n ≡ 0 → (n + (d - 1)) / d ≡ 0
ceil-zero n d D e = ap (λ (k : ℕ). (k + (d - 1)) / d) e ∙ ceil-of-zero d D

-- ±x / c ≤ ±y / d
floor-steps : (s t : Bool) (x c y d : ℕ) → 0 < c → 0 < d → compared s (x * d) t (y * c) ≡ true → step_at (floor_ratio s x c) ≤ step_at (floor_ratio t y d)
floor-steps false false x c y d C D h =
    go (x / c) (y / d) (div_mono x c y d C D (compared-to 0 false false (x * d) (y * c) (x * d) (y * c) (omega arith) (omega arith) h))
  where
    go : (i j : ℕ) → i ≤ j → suc (min i 65536) ≤ suc (min j 65536)
    go i j h = omega arith
floor-steps false true x c y d C D h =
    let e : x * d ≡ 0 = eqb-true (x * d) 0 (and_r (eqb (x * d) (y * c)) (eqb (x * d) 0) h) in
    let g : x * d ≡ y * c = eqb-true (x * d) (y * c) (and_l (eqb (x * d) (y * c)) (eqb (x * d) 0) h) in
    let p : x ≡ 0 = no_size x d D e in
    let q : y ≡ 0 = no_size y c C (sym g ∙ e) in
    rw (ceil-zero y d D q, p, zero-div c) (omega arith)
floor-steps true false x c y d C D h = go ((x + (c - 1)) / c) (y / d)
  where
    go : (j k : ℕ) → step_at (neg_ℤ (pos j)) ≤ step_at (pos k)
    go j k = omega (arith, neg-most j)
floor-steps true true x c y d C D h =
    neg-steps ((x + (c - 1)) / c) ((y + (d - 1)) / d)
    (λ e. let p : x ≡ 0 = ceil-back x c C e in ceil-zero y d D (no_size y c C (small (x * d) (y * c) (compared-to (x * d + y * c) true true (x * d) (y * c) (y * c) (x * d) (omega arith) (omega arith) h) (ap (λ (n : ℕ). n * d) p ∙ zero-mul d))))
  where
    small : (a b : ℕ) → b ≤ a → a ≡ 0 → b ≡ 0
    small a b h e = omega arith

pub steps-rise : (x y : Float) → Le x y → step_of x ≤ step_of y
unfolding le step_of
steps-rise nan y h = absurd (false≢true h)
steps-rise (inf s) nan h = absurd (false≢true h)
steps-rise (inf true) (inf t) h = omega arith
steps-rise (inf true) (fin t n d) h = omega arith
steps-rise (inf false) (inf true) h = absurd (false≢true h)
steps-rise (inf false) (inf false) h = omega arith
steps-rise (inf false) (fin t n d) h = absurd (false≢true h)
steps-rise (fin s m e) nan h = absurd (false≢true h)
steps-rise (fin s m e) (inf true) h = absurd (false≢true h)
steps-rise (fin s m e) (inf false) h = step-most (floor_ratio s (m * up e) (down e))
steps-rise (fin s m e) (fin t n d) h = floor-steps s t (m * up e) (down e) (n * up d) (down d) (down_pos e) (down_pos d) h

-- ---- the cell of a step
pub record Stepped (q : Float) : Type 0 where
  pub inside : (k : ℕ) → cell_number 65536 (floor q) ≡ Some k → (step_of q ≡ suc k) × (k < 65536)
  pub named : (k : ℕ) → step_of q ≡ suc k → k < 65536 → cell_number 65536 (floor q) ≡ Some k
  pub outside : (step_of q ≡ 0) ⊎ (65536 < step_of q) → cell_number 65536 (floor q) ≡ None

never : (k : ℕ) → None ≡ Some k → ⊥
never k e = let z : ◌≡◌ {A = ℕ} 0 1 = cc in omega arith

out : (q : Float) → cell_number 65536 (floor q) ≡ None → (step_of q ≡ 0) ⊎ (step_of q ≡ 65537) → Stepped q
out q e o = record {
  inside = λ k h. absurd (never k (sym e ∙ h));
  named = λ k h l. absurd (go k o h l);
  outside = λ h. e;
}
  where
    go : (k : ℕ) → (step_of q ≡ 0) ⊎ (step_of q ≡ 65537) → step_of q ≡ suc k → k < 65536 → ⊥
    go k (inl a) b l = omega arith
    go k (inr a) b l = omega arith

at : (n : ℕ) (q : Float) → n < 65536 → cell_number 65536 (floor q) ≡ Some n → step_of q ≡ suc n → Stepped q
at n q l e o = record {
  inside = λ k h. let i : n ≡ k = same n k (sym e ∙ h) in (o ∙ ap suc i, subst (λ (j : ℕ). j < 65536) i l);
  named = λ k h g. let i : n ≡ k = omega arith in e ∙ ap Some i;
  outside = λ h. absurd (go h);
}
  where
    same : (n k : ℕ) → Some n ≡ Some k → n ≡ k
    same n k e = cc

    go : (step_of q ≡ 0) ⊎ (65536 < step_of q) → ⊥
    go (inl a) = omega arith
    go (inr a) = omega arith

whole-stepped : (q : Float) (z : ℤ) → floor q ≡ whole z → step_of q ≡ step_at z → Stepped q
whole-stepped q (negsuc k) e o = out q (ap (cell_number 65536) e) (inl o)
whole-stepped q (pos k) e o = go (ltb k 65536) refl
  where
    go : (t : Bool) → ltb k 65536 ≡ t → Stepped q
    go true h = let l = ltb-true k 65536 h in at k q l (ap (cell_number 65536) e ∙ ap (λ (t : Bool). kept t k) h) (omega arith)
    go false h = let l = ltb-false k 65536 h in out q (ap (cell_number 65536) e ∙ ap (λ (t : Bool). kept t k) h) (inr (omega arith))

pub stepped : (q : Float) → Stepped q
unfolding floor step_of
stepped nan = out nan refl (inr refl)
stepped (inf true) = out (inf true) refl (inl refl)
stepped (inf false) = out (inf false) refl (inr refl)
stepped (fin s m e) = whole-stepped (fin s m e) (floor_ratio s (m * up e) (down e)) refl refl

-- ---- a quotient is below a whole number x of at most 65536 exactly if its step is at most x
module _ (m : ℕ) (e : ℤ) (n : ℕ) (d : ℤ) (x : ℕ) (X : x ≤ 65536) (value : n * up d * 1 ≡ x * down d) where
  abbrev p : ℕ
  p = m * up e

  upper : n * up d * down e ≡ x * down d * down e
  upper = ap (λ (k : ℕ). k * down e) (sym (mul-one (n * up d)) ∙ value)

  plus-below : ltb (p * down d) (n * up d * down e) ≡ leb (suc (min (p / down e) 65536)) x
  plus-below = same_test (ltb (p * down d) (n * up d * down e)) (leb (suc (min (p / down e) 65536)) x)
      (λ h. let l : p < x * down e = lt_of_mul-lt-mul_right (down d) (omega (arith, ltb-true (p * down d) (n * up d * down e) h, upper)) in le-leb (suc (min (p / down e) 65536)) x (into (p / down e) ((div-lt_iff_lt-mul (down_pos e)).1 l)))
      (λ h. let l : p < x * down e = (div-lt_iff_lt-mul (down_pos e)).0 (back (p / down e) (leb-true (suc (min (p / down e) 65536)) x h)) in lt-ltb (p * down d) (n * up d * down e) (omega (arith, mul-lt-mul_of_pos_right l (down_pos d), upper)))
    where
      into : (k : ℕ) → k < x → suc (min k 65536) ≤ x
      into k h = omega arith

      back : (k : ℕ) → suc (min k 65536) ≤ x → k < x
      back k h = omega arith

  none_below : p ≡ 0 → ltb 0 (p * down d + n * up d * down e) ≡ leb 1 x
  none_below z = same_test (ltb 0 (p * down d + n * up d * down e)) (leb 1 x)
      (λ h. le-leb 1 x (some x (ltb-true 0 (p * down d + n * up d * down e) h)))
      (λ h. lt-ltb 0 (p * down d + n * up d * down e) (omega (arith, upper, mul-pos (mul-pos (leb-true 1 x h) (down_pos d)) (down_pos e))))
    where
      some : (k : ℕ) → 0 < p * down d + n * up d * down e → 1 ≤ x
      some k h = go (eq-zero-or-pos x)
        where
          go : (x ≡ 0) ⊎ (0 < x) → 1 ≤ x
          go (inr g) = g
          go (inl g) = absurd (omega (arith, upper, ap (λ (k : ℕ). k * down d) z, ap (λ (k : ℕ). k * down d * down e) g))

  minus-below : (j : ℕ) → (p + (down e - 1)) / down e ≡ j → ltb 0 (p * down d + n * up d * down e) ≡ leb (step_at (neg_ℤ (pos j))) x
  minus-below zero h = none_below (ceil-back p (down e) (down_pos e) h)
  minus-below (suc j) h = go (eq-zero-or-pos p)
    where
      go : (p ≡ 0) ⊎ (0 < p) → ltb 0 (p * down d + n * up d * down e) ≡ leb 0 x
      go (inl g) = absurd (clash (ceil-zero p (down e) (down_pos e) g) h)
        where
          clash : {k : ℕ} → k ≡ 0 → k ≡ suc j → ⊥
          clash a b = omega arith
      go (inr g) = lt-ltb 0 (p * down d + n * up d * down e) (omega (arith, mul-pos g (down_pos d))) ∙ sym (le-leb 0 x zero-le)

pub below_step : (q y : Float) (x : ℕ) → x ≤ 65536 → HasValue y false x 1 → lt q y ≡ leb (step_of q) x
unfolding lt step_of
below_step q nan x X h = absurd h
below_step q (inf t) x X h = absurd h
below_step q (fin true n d) x X h = absurd (true≢false h.0)
below_step nan (fin false n d) x X h = sym (lt-leb 65537 x (omega arith))
below_step (inf true) (fin false n d) x X h = sym (le-leb 0 x zero-le)
below_step (inf false) (fin false n d) x X h = sym (lt-leb 65537 x (omega arith))
below_step (fin false m e) (fin false n d) x X h = plus-below m e n d x X h.1
below_step (fin true m e) (fin false n d) x X h = minus-below m e n d x X h.1 ((m * up e + (down e - 1)) / down e) refl

pub comes-before : (q : Float) (x : ℕ) → x ≤ 65536 → lt q (of_int binary64 (pos x)) ≡ leb (step_of q) x
unfolding of_int
comes-before q x X = below_step q (round binary64 false x 1) x X (round_whole binary64 false x (le_trans X (lit≤ tt)))
