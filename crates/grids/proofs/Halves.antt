-- The span of a cell and the spans of its children: each child has a half on each axis. A cell has as many points as the product of its lengths says.
use mathlib.Core.Path.{◌≡◌, refl, sym, ap, ap₂, ◌∙◌, subst}
use mathlib.Core.Bool.{Bool, true, false, cond}
use mathlib.Core.Logic.{◌⊎◌, inl, inr}
use Prim.Native.Nat.{ℕ, zero, suc, ◌+◌, ◌-◌, ◌*◌, ◌/◌, ◌%◌, ◌^◌, ◌≤◌, ◌<◌}
use native.Mathlib.Nat.{le_trans, le_of_eq, mul-le-mul_right, sub-le}
use native.Mathlib.Omega.{arith}
use lib.Dec.{eqb}
use lib.Pow.{high, low, field, mod-mod-pow}
use borrow.Author.Tests.{eqb-true, eqb-false, eq-eqb, ne_eqb}
use Rattle.codes.proofs.Codes.{anchor-more}
use Rattle.morton.specs.Keys.{deepest, level_of, code_of, child, ValidKey}
use Rattle.morton.specs.Anchors.{anchor}
use Rattle.morton.proofs.Cells.{key-level, key-code}
use Rattle.refine.specs.Counts.{targets_in}
use Rattle.space.specs.declared.Frame.{Frame}
use Rattle.space.specs.Rows.{first_outside}
use Rattle.grids.specs.declared.Grid.{Grid}
use Rattle.grids.specs.declared.spans.Span.{Span}
use Rattle.grids.specs.Grids.{shape_on, product, points_of, listed}
use Rattle.grids.specs.Ranges.{first_from, range_in, grid_count, grid_codes, Fitting}
use Rattle.grids.specs.Spans.{from_on, middle_on, to_on, length_on, Whole, OnAxis, anchor_on, Spanned, Parted, HalfTaken, Counts}
use Rattle.grids.proofs.Tallies.{product-same}
use Rattle.grids.proofs.Products.{earlier}
use Rattle.grids.proofs.Sized.{shapes}
use Rattle.grids.proofs.Middles.{half-wide}
use Rattle.grids.proofs.Ranged.{ends-rise, range-le, products-le}
use Rattle.grids.proofs.Totals.{grid-counted, ends-of-whole}
use Rattle.space.specs.Inside.{all_inside}

-- ---- the root has all indices
root-anchor : (f : Frame) (a : ℕ) → anchor_on f 0 a ≡ 0
unfolding anchor
root-anchor f a = refl

pub whole-spanned : (f : Frame) (g : Grid) → Fitting f g → first_outside (points_of f.axes g) f (listed f.axes g) ≡ all_inside → (s : Span) → Whole g s → Spanned f g 0 s
whole-spanned f g F e s w = record {
  each = λ a h.
      let i = ends-of-whole f g F e a h in
      record {
        starts = w.from a (omega (arith, F.most)) ∙ sym (ap (λ (x : ℕ). first_from f g a (x * 65536)) (root-anchor f a) ∙ i.0);
        ends = w.to a ∙ sym (ap (λ (x : ℕ). first_from f g a ((x + 1) * 65536)) (root-anchor f a) ∙ i.1);
      };
}

-- ---- a child's anchor: twice the cell's, and its bit
bit-of : (d a : ℕ) → a < d → (n : ℕ) → n / 2 ^ a % 2 ≡ n % 2 ^ d / 2 ^ a % 2
bit-of d a h n =
    let e : d - a + a ≡ d = omega arith in
    let i : d - suc a + 1 ≡ d - a = omega arith in
    sym (ap (λ (k : ℕ). n % 2 ^ k / 2 ^ a % 2) (sym e) ∙ ap (λ (k : ℕ). k % 2) (field n (d - a) a) ∙ ap (λ (k : ℕ). n / 2 ^ a % 2 ^ k % 2) (sym i) ∙ mod-mod-pow (n / 2 ^ a) (d - suc a) 1)

module _ (d k c : ℕ) (l : level_of k < 16) (small : c < 2 ^ d) where
  child-level : level_of (child d k c) ≡ suc (level_of k)
  child-level = key-level (level_of k + 1) (code_of k * 2 ^ d + c) (omega arith) ∙ omega arith

  pub child-anchor : (a : ℕ) → a < d → anchor d a (level_of (child d k c)) (code_of (child d k c)) ≡ c / 2 ^ a % 2 + 2 * anchor d a (level_of k) (code_of k)
  child-anchor a h =
      let x = code_of k * 2 ^ d + c in
      ap₂ (λ (n m : ℕ). anchor d a n m) child-level (key-code (level_of k + 1) x (omega arith))
      ∙ anchor-more d a (level_of k) x
      ∙ ap₂ (λ (n m : ℕ). n + 2 * anchor d a (level_of k) m) (bit-of d a h x ∙ ap (λ (n : ℕ). n / 2 ^ a % 2) (low (code_of k) d small)) (high (code_of k) d small)

-- ---- a child's span
module _ (f : Frame) (g : Grid) (k c : ℕ) (l : level_of k < 16) (small : c < 2 ^ f.axes) (s t : Span) (P : Parted f g k s) (H : HalfTaken f.axes s c t) where
  module _ (a : ℕ) (h : a < f.axes) where
    abbrev bit : ℕ
    bit = c / 2 ^ a % 2

    abbrev x : ℕ
    x = anchor_on f k a

    -- an end that is written at the child's level
    end-at : (y : ℕ) → (n : ℕ) → n ≡ y * 2 ^ (15 - level_of k) → first_from f g a n ≡ first_from f g a (y * 2 ^ (deepest - level_of (child f.axes k c)))
    end-at y n e = let i : 15 - level_of k ≡ 16 - suc (level_of k) = omega arith in ap (first_from f g a) (e ∙ ap (λ (m : ℕ). y * 2 ^ m) i ∙ ap (λ (m : ℕ). y * 2 ^ (16 - m)) (sym (child-level f.axes k c l small)))

    anchor-as : (y : ℕ) → bit + 2 * x ≡ y → anchor_on f (child f.axes k c) a ≡ y
    anchor-as y e = child-anchor f.axes k c l small a h ∙ e

    lower : bit ≡ 0 → OnAxis f g a (level_of (child f.axes k c)) (anchor_on f (child f.axes k c) a) (from_on t a) (to_on t a)
    lower z =
        let y : anchor_on f (child f.axes k c) a ≡ 2 * x = anchor-as (2 * x) (omega arith) in
        let yes : eqb bit 0 ≡ true = eq-eqb bit 0 z in
        record {
          starts = H.from_is a h ∙ ap (λ (b : Bool). cond b (from_on s a) (middle_on s a)) yes ∙ (P.spanned.each a h).starts ∙ end-at (2 * x) (x * 2 ^ (16 - level_of k)) (half-wide (level_of k) l x) ∙ ap (λ (n : ℕ). first_from f g a (n * 2 ^ (deepest - level_of (child f.axes k c)))) (sym y);
          ends = H.to_is a h ∙ ap (λ (b : Bool). cond b (middle_on s a) (to_on s a)) yes ∙ P.middles a h ∙ end-at (2 * x + 1) ((2 * x + 1) * 2 ^ (15 - level_of k)) refl ∙ ap (λ (n : ℕ). first_from f g a ((n + 1) * 2 ^ (deepest - level_of (child f.axes k c)))) (sym y);
        }

    upper : (bit ≡ 0 → ⊥) → OnAxis f g a (level_of (child f.axes k c)) (anchor_on f (child f.axes k c) a) (from_on t a) (to_on t a)
    upper n =
        let one : bit ≡ 1 = not-zero (c / 2 ^ a) n in
        let y : anchor_on f (child f.axes k c) a ≡ 2 * x + 1 = anchor-as (2 * x + 1) (omega arith) in
        let no : eqb bit 0 ≡ false = ne_eqb bit 0 n in
        let e : 2 * (x + 1) ≡ 2 * x + 1 + 1 = omega arith in
        record {
          starts = H.from_is a h ∙ ap (λ (b : Bool). cond b (from_on s a) (middle_on s a)) no ∙ P.middles a h ∙ end-at (2 * x + 1) ((2 * x + 1) * 2 ^ (15 - level_of k)) refl ∙ ap (λ (n : ℕ). first_from f g a (n * 2 ^ (deepest - level_of (child f.axes k c)))) (sym y);
          ends = H.to_is a h ∙ ap (λ (b : Bool). cond b (middle_on s a) (to_on s a)) no ∙ (P.spanned.each a h).ends ∙ end-at (2 * x + 1 + 1) ((x + 1) * 2 ^ (16 - level_of k)) (half-wide (level_of k) l (x + 1) ∙ ap (λ (n : ℕ). n * 2 ^ (15 - level_of k)) e) ∙ ap (λ (n : ℕ). first_from f g a ((n + 1) * 2 ^ (deepest - level_of (child f.axes k c)))) (sym y);
        }
      where
        not-zero : (n : ℕ) → (n % 2 ≡ 0 → ⊥) → n % 2 ≡ 1
        not-zero n h = go (n % 2) (two n) h
          where
            two : (n : ℕ) → n % 2 < 2
            two n = omega arith

            go : (m : ℕ) → m < 2 → (m ≡ 0 → ⊥) → m ≡ 1
            go zero l h = absurd (h refl)
            go (suc zero) l h = refl
            go (suc (suc m)) l h = absurd (omega arith)

  pub half-spanned : Spanned f g (child f.axes k c) t
  half-spanned = record {
    each = λ a h. go a h (eqb (c / 2 ^ a % 2) 0) refl;
  }
    where
      go : (a : ℕ) (h : a < f.axes) (b : Bool) → eqb (c / 2 ^ a % 2) 0 ≡ b → OnAxis f g a (level_of (child f.axes k c)) (anchor_on f (child f.axes k c) a) (from_on t a) (to_on t a)
      go a h true e = lower a h (eqb-true (c / 2 ^ a % 2) 0 e)
      go a h false e = upper a h (eqb-false (c / 2 ^ a % 2) 0 e)

-- ---- the count
module _ (f : Frame) (g : Grid) (F : Fitting f g) (k : ℕ) (s : Span) (S : Spanned f g k s) where
  length_is : (a : ℕ) → a < f.axes → length_on s a ≡ range_in f g a (level_of k) (anchor_on f k a)
  length_is a h = ap₂ (λ (m n : ℕ). m - n) (S.each a h).ends (S.each a h).starts

  pub span_counts : Counts f.axes s
  span_counts = record {
    most = F.most;
    order = λ a h.
        omega (arith, (S.each a h).starts, (S.each a h).ends, ends-rise f g a (anchor_on f k a * 2 ^ (16 - level_of k)) ((anchor_on f k a + 1) * 2 ^ (16 - level_of k)) (mul-le-mul_right (2 ^ (16 - level_of k)) (omega arith)));
    few = λ n h.
        le_trans (products-le (length_on s) (shape_on g) n (λ a l. le_trans (le_of_eq (length_is a (omega arith))) (range-le f g a (level_of k) (anchor_on f k a))))
        (le_trans (earlier (shape_on g) f.axes (shapes f g F) n h) F.few);
  }

  pub span-targets : first_outside (points_of f.axes g) f (listed f.axes g) ≡ all_inside → ValidKey f.axes k → product (length_on s) 0 f.axes ≡ targets_in f.axes (grid_codes f g) k
  span-targets e v =
      product-same (length_on s) (λ a. range_in f g a (level_of k) (anchor_on f k a)) 0 f.axes (λ a h. ap₂ (λ (m n : ℕ). m - n) (ends_at a h) (starts_at a h))
      ∙ sym (grid-counted f g F e (level_of k) (code_of k) v.level v.code)
    where
      ends_at : (a : ℕ) → a < f.axes → to_on s (0 + a) ≡ first_from f g (0 + a) ((anchor_on f k (0 + a) + 1) * 2 ^ (16 - level_of k))
      ends_at a h = let e : 0 + a ≡ a = omega arith in subst (λ (b : ℕ). to_on s b ≡ first_from f g b ((anchor_on f k b + 1) * 2 ^ (16 - level_of k))) (sym e) (S.each a h).ends

      starts_at : (a : ℕ) → a < f.axes → from_on s (0 + a) ≡ first_from f g (0 + a) (anchor_on f k (0 + a) * 2 ^ (16 - level_of k))
      starts_at a h = let e : 0 + a ≡ a = omega arith in subst (λ (b : ℕ). from_on s b ≡ first_from f g b (anchor_on f k b * 2 ^ (16 - level_of k))) (sym e) (S.each a h).starts
