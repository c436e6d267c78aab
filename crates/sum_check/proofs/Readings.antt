-- The size of a reading, and the first that is too large.
use mathlib.Core.Path.{◌≡◌, refl, sym, ap, ◌∙◌, subst}
use mathlib.Core.Bool.{Bool, true, false, cond}
use mathlib.Core.List.{List, [], ◌∷◌}
use Prim.Native.Nat.{ℕ, zero, suc, ◌+◌, ◌^◌, ◌≤◌, ◌<◌}
use native.Mathlib.Omega.{arith}
use native.Mathlib.Numerals.{add-one}
use native.Mathlib.Nat.{not-suc-le-zero, le_of_suc-le-suc}
use lib.Dec.{leb, ltb, eqb}
use lib.IntN.{ℤ, pos, negsuc, nat_abs}
use lib.ListN.{length, get_or, drop}
use lib.Signed.{lt_z, le_z, mag}
use lib.Seq.{drop-cons}
use borrow.Author.Tests.{ltb-true, ltb-false, le-leb, lt-leb, leb-true}
use mir.Syntax.{w64}
use mir.Val.{SFits, to_z, of_z, hbits}
use mir.Facts.{to_z-of_z}
use Rattle.slices.proofs.Tests.{clash}
use Rattle.row_sums.specs.Readings.{largest}
use Rattle.sum_check.specs.Checks.{is_small, first_large}

too-low : (x : ℤ) → lt_z x (negsuc 1099511627775) ≡ true → false ≡ is_small x
too-low (pos a) h = absurd (clash h refl)
too-low (negsuc a) h = let l = ltb-true 1099511627775 a h in sym (lt-leb (suc a) largest (omega arith))

by-top : (x : ℤ) → lt_z x (negsuc 1099511627775) ≡ false → le_z x (pos 1099511627776) ≡ is_small x
by-top (pos a) h = refl
by-top (negsuc a) h = let l = ltb-false 1099511627775 a h in sym (le-leb (suc a) largest (omega arith))

module _ (x : ℤ) (f : SFits w64 x) where
  pub small-below : lt_z (to_z w64 (of_z w64 x)) (negsuc 1099511627775) ≡ true → false ≡ is_small x
  small-below h = too-low x (rw (to_z-of_z f) at h)

  pub small_is : lt_z (to_z w64 (of_z w64 x)) (negsuc 1099511627775) ≡ false → le_z (to_z w64 (of_z w64 x)) (pos 1099511627776) ≡ is_small x
  small_is h = ap (λ z. le_z z (pos 1099511627776)) (to_z-of_z f) ∙ by-top x (rw (to_z-of_z f) at h)

-- a reading as it is read from a slice
pub read_small : (x : ℤ) → mag x < 2 ^ hbits w64 → (r : Bool) → r ≡ is_small (to_z w64 (of_z w64 x)) → r ≡ is_small x
read_small x h r e = e ∙ ap is_small (to_z-of_z {w = w64} {z = x} (record { sfits = h }))

-- the rest gives the whole
pub record Looking (readings : List ℤ) (i : ℕ) : Type 0 where
  pub upto : i ≤ length readings
  pub is : i + first_large (drop i readings) ≡ first_large readings

none_left : (xs : List ℤ) → length xs ≡ 0 → first_large xs ≡ 0
unfolding first_large
none_left [] e = refl
none_left (x ∷ xs) e = absurd (omega arith)

step : (x : ℤ) (xs : List ℤ) (b : Bool) → is_small x ≡ b → first_large (x ∷ xs) ≡ cond b (suc (first_large xs)) 0
unfolding first_large
step x xs b e = ap (λ t. cond t (suc (first_large xs)) 0) e

-- no reading before it is too large
pub all_small : (xs : List ℤ) → first_large xs ≡ length xs → (i : ℕ) → i < length xs → nat_abs (get_or xs i (pos 0)) ≤ largest
all_small [] e i l = absurd (not-suc-le-zero l)
all_small (x ∷ xs) e i l = go (is_small x) refl i l (all_small xs)
  where
    go : (b : Bool) → is_small x ≡ b → (i : ℕ) → i < suc (length xs) → (first_large xs ≡ length xs → (i : ℕ) → i < length xs → nat_abs (get_or xs i (pos 0)) ≤ largest) → nat_abs (get_or (x ∷ xs) i (pos 0)) ≤ largest
    go false q i l ih = absurd (omega (arith, step x xs false q))
    go true q zero l ih = leb-true (nat_abs x) largest q
    go true q (suc i) l ih = ih (omega (arith, step x xs true q)) i (le_of_suc-le-suc l)

module _ (readings : List ℤ) where
  pub look-start : Looking readings 0
  look-start = record { upto = omega arith; is = omega arith }

  module _ (i : ℕ) (k : Looking readings i) (l : i < length readings) (r : Bool) (e : r ≡ is_small (get_or readings i (pos 0))) where
    here : drop i readings ≡ get_or readings i (pos 0) ∷ drop (suc i) readings
    here = drop-cons readings i (pos 0) l

    pub look-large : r ≡ false → i ≡ first_large readings
    look-large q = omega (arith, k.is, ap first_large here ∙ step (get_or readings i (pos 0)) (drop (suc i) readings) false (sym e ∙ q))

    pub look-more : r ≡ true → Looking readings (i + 1)
    look-more q = record {
      upto = omega arith;
      is = rw (add-one i) (omega (arith, k.is, ap first_large here ∙ step (get_or readings i (pos 0)) (drop (suc i) readings) true (sym e ∙ q)));
    }

  pub look-done : (i : ℕ) → Looking readings i → length readings ≤ i → i ≡ first_large readings
  look-done i k h = omega (arith, k.is, none_left (drop i readings) (lib.ListN.length-drop i readings ∙ omega arith))
