-- The box from extents, number by number.
use mathlib.Core.Path.{◌≡◌, refl, sym, ap, ap₂, ◌∙◌}
use mathlib.Core.Bool.{Bool, true, false, ◌&&◌}
use mathlib.Core.List.{List, [], ◌∷◌}
use Prim.Native.Nat.{ℕ, ◌+◌, ◌/◌, ◌≤◌, ◌<◌}
use native.Mathlib.Numerals.{add-one}
use native.Mathlib.Omega.{arith}
use lib.Dec.{eqb}
use lib.Ieee.{Float, inf, binary64, of_bits, round, add, sub, div, lt}
use lib.ListN.{length}
use borrow.Author.Tests.{lt-ltb, le-ltb, eq-eqb, ne_eqb}
use Rattle.std.specs.List.{list_all}
use Rattle.refusal.specs.declared.Refusal.{Refusal}
use Rattle.refusal.specs.declared.Refusal.TheVariants.{Dims, Box as OutOfDomain}
use Rattle.space.specs.declared.Box.{Box}
use Rattle.refusal.specs.Chain.{ask, ◌then◌}
use Rattle.space.specs.Domain.{box_outcome}
use Rattle.space.proofs.Literals.{zero_is}
use Rattle.space.specs.Floats.{is_finite}
use Rattle.extents.specs.Extents.{length_known, all_finite, two, margin, low, high, middle, half_width, larger, largest, box_from, extents_outcome, tree_box}
use Rattle.std.specs.Prelude.{Err, Ok}
use Rattle.refusal.specs.Outcome.{Outcome}

-- ---- literals
two_is : of_bits binary64 4611686018427387904 ≡ two
unfolding of_bits
two_is = refl

-- 1e-3
margin-is : of_bits binary64 4562254508917369340 ≡ margin
unfolding of_bits margin round
margin-is = refl

pub least-is : of_bits binary64 18442240474082181120 ≡ inf true
unfolding of_bits
least-is = refl

-- ---- finite numbers
pub finite_is : (xs : List Float) → list_all is_finite xs ≡ all_finite xs
unfolding all_finite
finite_is [] = refl
finite_is (x ∷ xs) = ap (λ t. is_finite x && t) (finite_is xs)

-- ---- the numbers of an axis
module _ (xs : List Float) (d a : ℕ) where
  pub middle-past : d ≤ a → of_bits binary64 0 ≡ middle xs d a
  unfolding middle
  middle-past h = rw (le-ltb a d h) zero_is

  pub middle-is : (l h : Float) → a < d → l ≡ low xs a → h ≡ high xs d a → div binary64 (add binary64 l h) (of_bits binary64 4611686018427387904) ≡ middle xs d a
  unfolding middle
  middle-is l h k e f = ap₂ (λ x y. div binary64 (add binary64 x y) (of_bits binary64 4611686018427387904)) e f ∙ ap (λ t. div binary64 (add binary64 (low xs a) (high xs d a)) t) two_is ∙ rw (lt-ltb a d k)

  pub reach-is : (l h : Float) → l ≡ low xs a → h ≡ high xs d a
      → add binary64 (div binary64 (sub binary64 h l) (of_bits binary64 4611686018427387904)) (of_bits binary64 4562254508917369340) ≡ half_width xs d a
  unfolding half_width
  reach-is l h e f =
      ap₂ (λ x y. add binary64 (div binary64 (sub binary64 y x) (of_bits binary64 4611686018427387904)) (of_bits binary64 4562254508917369340)) e f
      ∙ ap₂ (λ t m. add binary64 (div binary64 (sub binary64 (high xs d a) (low xs a)) t) m) two_is margin-is

-- ---- the largest reach
pub larger-y : (x y : Float) → lt x y ≡ true → y ≡ larger x y
larger-y x y h = rw h

pub larger-x : (x y : Float) → lt x y ≡ false → x ≡ larger x y
larger-x x y h = rw h

pub largest-none : (xs : List Float) (d : ℕ) → of_bits binary64 18442240474082181120 ≡ largest 0 xs d
unfolding largest
largest-none xs d = least-is

pub largest-more : (xs : List Float) (d n : ℕ) (r s t : Float) → r ≡ largest n xs d → s ≡ half_width xs d n → t ≡ larger r s → t ≡ largest (n + 1) xs d
unfolding largest
largest-more xs d n r s t e f g = g ∙ ap₂ larger e f ∙ ap (λ k. largest k xs d) (sym (add-one n))

-- ---- the refusals
pub two-known : (n : ℕ) → n ≡ 2 → true ≡ length_known n
two-known n h = sym (rw (eq-eqb n 2 h))

pub four-known : (n : ℕ) → (n ≡ 2 → ⊥) → n ≡ 4 → true ≡ length_known n
four-known n g h = sym (rw (ne_eqb n 2 g, eq-eqb n 4 h))

pub six-known : (n : ℕ) → (n ≡ 2 → ⊥) → (n ≡ 4 → ⊥) → eqb n 6 ≡ length_known n
six-known n g h = sym (rw (ne_eqb n 2 g, ne_eqb n 4 h))

half-fits : (n : ℕ) → n / 2 + n / 2 ≤ n
half-fits n = omega arith

module _ (xs : List Float) where
  pub halves-fit : length xs / 2 + length xs / 2 ≤ length xs
  halves-fit = half-fits (length xs)

  abbrev found : Box
  found = box_from xs (length xs / 2)

  from : (o : Outcome) → o ≡ extents_outcome xs → o then Ok found ≡ tree_box xs
  from o e = ap (λ o. o then Ok found) e

  pub length-off : (t : Bool) → t ≡ length_known (length xs) → t ≡ false → Err Dims ≡ tree_box xs
  length-off t e f = from (Err Dims) (sym (ap (λ b. ask b Dims then ask (all_finite xs) OutOfDomain then box_outcome found) (sym e ∙ f)))

  module _ (t : Bool) (known : t ≡ length_known (length xs)) (yes : t ≡ true) where
    pub finite-off : (u : Bool) → u ≡ all_finite xs → u ≡ false → Err OutOfDomain ≡ tree_box xs
    finite-off u e f =
        from (Err OutOfDomain)
        (sym (ap₂ (λ a b. ask a Dims then ask b OutOfDomain then box_outcome found) (sym known ∙ yes) (sym e ∙ f)))

    pub box-found : (u : Bool) (o : Outcome) → u ≡ all_finite xs → u ≡ true → o ≡ box_outcome found → o then Ok found ≡ tree_box xs
    box-found u o e f g =
        from o (g ∙ sym (ap₂ (λ a b. ask a Dims then ask b OutOfDomain then box_outcome found) (sym known ∙ yes) (sym e ∙ f)))
