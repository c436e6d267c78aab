-- The loops that look for the first row that is outside.
use mathlib.Core.Path.{◌≡◌, refl, sym, ap, ap₂, ◌∙◌, subst}
use mathlib.Core.Bool.{Bool, true, false, cond}
use Prim.Native.Nat.{ℕ, zero, suc, ◌+◌, ◌-◌, ◌*◌, ◌≤◌, ◌<◌}
use native.Mathlib.Nat.{mul_comm, mul-le-mul_right, le_trans, le_of_eq}
use native.Mathlib.Omega.{arith}
use lib.Dec.{eqb}
use borrow.Author.Tests.{lt-ltb, le-ltb}
use Rattle.space.specs.declared.Frame.{Frame}
use Rattle.grids.specs.declared.Grid.{Grid}
use Rattle.grids.specs.declared.Exit.{Exit}
use Rattle.grids.specs.Grids.{shape_on, product, stride_on}
use Rattle.grids.specs.Ranges.{first_from, Fitting}
use Rattle.grids.specs.Exits.{starts_out, ends_out, or_else, first_of, last_of, exit_by, leaves, grid_exit}
use Rattle.grids.proofs.Products.{from-axis, product-none}
use Rattle.grids.proofs.Sized.{shapes, tail-few}
use Rattle.std.specs.Prelude.{None, Option, Some}

-- ---- one axis
module _ (f : Frame) (g : Grid) (a : ℕ) where
  pub starts-yes : (r : ℕ) → r ≡ first_from f g a 0 → 0 < r → true ≡ starts_out f g a
  starts-yes r e h = rw (lt-ltb 0 (first_from f g a 0) (subst (λ (n : ℕ). 0 < n) e h))

  pub starts-rest : (r q : ℕ) → r ≡ first_from f g a 0 → r ≤ 0 → q ≡ first_from f g a 65536 → eqb q 0 ≡ starts_out f g a
  starts-rest r q e h k = rw (le-ltb 0 (first_from f g a 0) (subst (λ (n : ℕ). n ≤ 0) e h)) (ap (λ (n : ℕ). eqb n 0) k)

-- ---- the first that passes
module _ (p : ℕ → Bool) where
  pub first-start : first_of p 0 ≡ None
  unfolding first_of
  first-start = refl

  pub first_next : (n m : ℕ) → m ≡ n + 1 → first_of p n ≡ None → p n ≡ false → first_of p m ≡ None
  unfolding first_of
  first_next n m e h k = let i : n + 1 ≡ suc n = omega arith in ap (first_of p) (e ∙ i) ∙ rw (h, k)

  here : (n : ℕ) → first_of p n ≡ None → p n ≡ true → first_of p (suc n) ≡ Some n
  unfolding first_of
  here n h k = rw (h, k)

  kept : (n i k : ℕ) → first_of p n ≡ Some i → first_of p (n + k) ≡ Some i
  unfolding first_of
  kept n i zero h = ap (first_of p) (native.Mathlib.Nat.add-zero n) ∙ h
  kept n i (suc k) h = ap (first_of p) (native.Mathlib.Nat.add-suc n k) ∙ ap (λ y. or_else y (cond (p (n + k)) (Some (n + k)) None)) (kept n i k h)

  pub first_found : (n d : ℕ) → n < d → first_of p n ≡ None → p n ≡ true → Some n ≡ first_of p d
  first_found n d l h k = let e : suc n + (d - suc n) ≡ d = omega arith in sym (ap (first_of p) (sym e) ∙ kept (suc n) n (d - suc n) (here n h k))

-- ---- the last
pub record Seeking (f : Frame) (g : Grid) (a stride : ℕ) : Type 0 where
  pub within : a ≤ f.axes
  pub is : stride ≡ product (shape_on g) a (f.axes - a)
  pub same : last_of (ends_out f g) a ≡ last_of (ends_out f g) f.axes

module _ (f : Frame) (g : Grid) (F : Fitting f g) where
  pub seeking-start : Seeking f g f.axes 1
  seeking-start =
      let e : f.axes - f.axes ≡ 0 = omega arith in
      record { within = le_of_eq refl; is = sym (ap (product (shape_on g) f.axes) e ∙ product-none (shape_on g) f.axes); same = refl }

  pub seeking-none : (a stride : ℕ) → Seeking f g a stride → a ≤ 0 → None ≡ exit_by f g None (last_of (ends_out f g) f.axes)
  unfolding last_of
  seeking-none a stride s h = let e : a ≡ 0 = omega arith in ap (exit_by f g None) (sym (ap (last_of (ends_out f g)) e) ∙ s.same)

  module _ (a b stride to : ℕ) (s : Seeking f g a stride) (e : a ≡ b + 1) (T : to ≡ first_from f g b 65536) where
    inside : b < f.axes
    inside = omega (arith, s.within)

    suc-is : a ≡ suc b
    suc-is = omega arith

    stride-is : stride ≡ stride_on f.axes g b
    stride-is = s.is ∙ ap (λ (n : ℕ). product (shape_on g) n (f.axes - n)) suc-is

    last-is : last_of (ends_out f g) (suc b) ≡ last_of (ends_out f g) f.axes
    last-is = ap (last_of (ends_out f g)) (sym suc-is) ∙ s.same

    pub stride-fits : stride * shape_on g b ≤ 1048576
    stride-fits = le_trans (le_of_eq (ap (λ (n : ℕ). n * shape_on g b) stride-is ∙ mul_comm (stride_on f.axes g b) (shape_on g b))) (tail-few f g F b inside)

    pub row_fits : to < shape_on g b → to * stride ≤ 1048576
    row_fits h = le_trans (mul-le-mul_right stride (less to (shape_on g b) h)) (le_trans (le_of_eq (mul_comm (shape_on g b) stride)) stride-fits)
      where
        less : (x y : ℕ) → x < y → x ≤ y
        less x y h = omega arith

    pub seeking-found : to < shape_on g b → leaves (to * stride) b ≡ exit_by f g None (last_of (ends_out f g) f.axes)
    unfolding last_of
    seeking-found h =
        let p : ends_out f g b ≡ true = lt-ltb (first_from f g b 65536) (shape_on g b) (subst (λ (n : ℕ). n < shape_on g b) T h) in
        ap₂ (λ (x y : ℕ). leaves (x * y) b) T stride-is ∙ ap (λ t. exit_by f g None (cond t (Some b) (last_of (ends_out f g) b))) (sym p) ∙ ap (exit_by f g None) last-is

    pub seeking-more : shape_on g b ≤ to → Seeking f g b (stride * shape_on g b)
    unfolding last_of
    seeking-more h =
        let p : ends_out f g b ≡ false = le-ltb (first_from f g b 65536) (shape_on g b) (subst (λ (n : ℕ). shape_on g b ≤ n) T h) in
        record {
          within = omega (arith, inside);
          is = ap (λ (n : ℕ). n * shape_on g b) stride-is ∙ mul_comm (stride_on f.axes g b) (shape_on g b) ∙ sym (from-axis (shape_on g) f.axes (shapes f g F) b inside);
          same = ap (λ t. cond t (Some b) (last_of (ends_out f g) b)) (sym p) ∙ last-is;
        }

-- ---- both
pub exit-first : (f : Frame) (g : Grid) (x : Option ℕ) (a : ℕ) → x ≡ first_of (starts_out f g) f.axes → x ≡ Some a → leaves 0 a ≡ grid_exit f g
exit-first f g x a p q = ap (λ y. exit_by f g y (last_of (ends_out f g) f.axes)) (sym q ∙ p)

pub exit-later : (f : Frame) (g : Grid) (x : Option ℕ) (r : Option Exit) → x ≡ first_of (starts_out f g) f.axes → x ≡ None → r ≡ exit_by f g None (last_of (ends_out f g) f.axes) → r ≡ grid_exit f g
exit-later f g x r p q e = e ∙ ap (λ y. exit_by f g y (last_of (ends_out f g) f.axes)) (sym q ∙ p)
