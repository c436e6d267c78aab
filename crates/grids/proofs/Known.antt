-- The tests of a grid's numbers.
use mathlib.Core.Path.{◌≡◌, refl, sym, ap, ◌∙◌}
use mathlib.Core.Bool.{Bool, true, false, ◌&&◌, true≢false}
use mathlib.Core.Logic.{◌⊎◌, inl, inr}
use Prim.Native.Nat.{ℕ, ◌+◌, ◌*◌, ◌≤◌, ◌<◌}
use native.Mathlib.Nat.{mul-pos}
use native.Mathlib.Omega.{arith}
use lib.Dec.{leb, ltb}
use lib.Ieee.{Float, nan, inf, fin, binary64, up, down, lt, of_bits}
use lib.Ieee.Fits.{up_pos}
use lib.Ieee.Positive.{positive}
use lib.ListN.{get_or}
use borrow.Author.Tests.{ltb-true, ltb-false, lt-ltb, le-ltb, lt-leb, le-leb}
use Rattle.slices.proofs.Every.{every-next, every-none}
use Rattle.slices.proofs.Tests.{lt-or-le}
use Rattle.space.specs.Floats.{nought, is_finite}
use Rattle.space.proofs.Literals.{zero_is}
use Rattle.space.proofs.Boxes.{every-false}
use Rattle.grids.specs.declared.Grid.{Grid}
use Rattle.grids.specs.Grids.{shape_on, axis_known, grid_known}

-- ---- finite and above 0
above-finite : (x : Float) → lt nought x ≡ true → is_finite x ≡ positive x
unfolding lt
above-finite nan h = refl
above-finite (inf s) h = refl
above-finite (fin true m e) h = absurd (true≢false (sym h))
above-finite (fin false m e) h = sym (some (lt-or-le 0 m))
  where
    some : (0 < m) ⊎ (m ≤ 0) → ltb 0 m ≡ true
    some (inl l) = lt-ltb 0 m l
    some (inr l) =
        let z : m ≡ 0 = omega arith in
        absurd (omega (arith, ltb-true (0 * 1 * down e) (m * up e * 1) h, ap (λ (k : ℕ). k * up e) z))

not-above : (x : Float) → lt nought x ≡ false → false ≡ positive x
unfolding lt
not-above nan h = refl
not-above (inf s) h = refl
not-above (fin true m e) h = refl
not-above (fin false m e) h = sym (le-ltb 0 m (none (lt-or-le 0 m)))
  where
    none : (0 < m) ⊎ (m ≤ 0) → m ≤ 0
    none (inr l) = l
    none (inl l) = absurd (omega (arith, ltb-false (0 * 1 * down e) (m * up e * 1) h, mul-pos l (up_pos e)))

pub positive-yes : (x : Float) (r : Bool) → lt (of_bits binary64 0) x ≡ true → r ≡ is_finite x → r ≡ positive x
positive-yes x r h e = e ∙ above-finite x (ap (λ z. lt z x) (sym zero_is) ∙ h)

pub positive-no : (x : Float) → lt (of_bits binary64 0) x ≡ false → false ≡ positive x
positive-no x h = not-above x (ap (λ z. lt z x) (sym zero_is) ∙ h)

-- ---- an axis
module _ (g : Grid) (a : ℕ) where
  pub no-shape : shape_on g a < 1 → false ≡ axis_known g a
  no-shape h = rw (lt-leb 1 (shape_on g a) h)

  pub axis-rest : (t r : Bool) → 1 ≤ shape_on g a → t ≡ is_finite (get_or g.origin a nan) → t ≡ true → r ≡ positive (get_or g.spacing a nan) → r ≡ axis_known g a
  axis-rest t r h e i k = rw (le-leb 1 (shape_on g a) h, sym e ∙ i) k

  pub no_origin : (t : Bool) → t ≡ is_finite (get_or g.origin a nan) → t ≡ false → false ≡ axis_known g a
  no_origin t e i = go (leb 1 (shape_on g a))
    where
      go : (b : Bool) → false ≡ (b && (is_finite (get_or g.origin a nan) && positive (get_or g.spacing a nan)))
      go true = rw (sym e ∙ i)
      go false = refl

-- ---- all axes
module _ (g : Grid) (m : ℕ) (r : Bool) (is : r ≡ axis_known g m) where
  pub known-fails : (n : ℕ) → m < n → r ≡ false → false ≡ grid_known n g
  unfolding grid_known
  known-fails n l h = sym (every-false (axis_known g) n m l (sym is ∙ h))

  pub known_next : grid_known m g ≡ true → r ≡ true → grid_known (m + 1) g ≡ true
  unfolding grid_known
  known_next before h = every-next (axis_known g) (m + 1) m refl (sym is ∙ h) ∙ before

pub known-none : (g : Grid) → grid_known 0 g ≡ true
unfolding grid_known
known-none g = every-none (axis_known g) 0 refl
