-- The listed points of a grid, row by row: each row's coordinates, its cells, and whether it is inside.
use mathlib.Core.Path.{◌≡◌, refl, sym, ap, ◌∙◌}
use mathlib.Core.Bool.{Bool, true, false, ◌&&◌}
use mathlib.Core.List.{List, map, ◌++◌}
use mathlib.Core.Logic.{◌⊎◌, inl, inr}
use Prim.Native.Nat.{ℕ, zero, suc, ◌+◌, ◌*◌, ◌/◌, ◌≤◌, ◌<◌}
use native.Mathlib.Nat.{add-zero, zero-add, zero-mul, suc-mul, mul-le-mul_right, mul-div_cancel}
use native.Mathlib.Omega.{arith}
use lib.Ieee.{Float, nan}
use lib.ListN.{length, get_or, drop, length-append, length-map, get_or-append}
use lib.Seq.{get_or-append-add, get_or-drop}
use Rattle.slices.specs.Lists.{range}
use Rattle.slices.proofs.Lists.{length-range}
use Rattle.slices.proofs.Tests.{lt-or-le, and_l, and_r, both}
use Rattle.space.specs.declared.Box.{Box}
use Rattle.space.specs.declared.Frame.{Frame}
use Rattle.space.specs.declared.Place.TheVariants.{At}
use Rattle.space.specs.Floats.{floor}
use Rattle.space.specs.Cells.{quotient, cell_number, cell16, is_at, number_in, inside}
use Rattle.space.specs.Rows.{inside_rows, rows_of}
use Rattle.space.proofs.Points.{cell-past, number_read, at-number, at_none}
use Rattle.space.proofs.Batches.{row_inside, row-outside, rows-le}
use Rattle.grids.specs.declared.Grid.{Grid}
use Rattle.grids.specs.Grids.{coordinate, points_of, index_on, row_of, flat, listed}
use Rattle.grids.specs.Ranges.{step_of, step_on}
use Rattle.grids.proofs.Steps.{stepped}
use Rattle.std.specs.Prelude.{Option}

-- ---- a row
mapped : (f : ℕ → Float) (b d a : ℕ) → a < d → get_or (map f (range b d)) a nan ≡ f (b + a)
unfolding range
mapped f b zero a h = absurd (omega arith)
mapped f b (suc d) zero h = ap f (sym (add-zero b))
mapped f b (suc d) (suc a) h = let e : suc b + a ≡ b + suc a = omega arith in mapped f (suc b) d a (omega arith) ∙ ap f e

module _ (d : ℕ) (g : Grid) (r : ℕ) where
  pub row-length : length (row_of d g r) ≡ d
  row-length = length-map (range 0 d) (λ a. coordinate g a (index_on d g a r)) ∙ length-range 0 d

  row-at : (a : ℕ) → a < d → get_or (row_of d g r) a nan ≡ coordinate g a (index_on d g a r)
  row-at a h = let f : ℕ → Float = λ a. coordinate g a (index_on d g a r) in mapped f 0 d a h ∙ ap f (zero-add a)

-- ---- rows of one length, one after the other
module _ (f : ℕ → List Float) (d : ℕ) (long : (r : ℕ) → length (f r) ≡ d) where
  flat-length : (n : ℕ) → length (flat f n) ≡ n * d
  unfolding flat
  flat-length zero = sym (zero-mul d)
  flat-length (suc n) = length-append (flat f n) (f n) ∙ omega (arith, flat-length n, long n)

  flat-at : (n r a : ℕ) → r < n → a < d → get_or (flat f n) (r * d + a) nan ≡ get_or (f r) a nan
  unfolding flat
  flat-at zero r a h l = absurd (omega arith)
  flat-at (suc n) r a h l = go (lt-or-le r n) (flat-at n r a)
    where
      go : (r < n) ⊎ (n ≤ r) → (r < n → a < d → get_or (flat f n) (r * d + a) nan ≡ get_or (f r) a nan) → get_or (flat f n ++ f n) (r * d + a) nan ≡ get_or (f r) a nan
      go (inl k) rest = get_or-append (flat f n) (f n) nan (r * d + a) (omega (arith, flat-length n, mul-le-mul_right d k, suc-mul r d)) ∙ rest k l
      go (inr k) rest =
          let e : r ≡ n = omega arith in
          let i : r * d + a ≡ length (flat f n) + a = omega (arith, flat-length n, ap (λ (x : ℕ). x * d) e) in
          ap (λ (x : ℕ). get_or (flat f n ++ f n) x nan) i ∙ get_or-append-add (flat f n) (f n) a nan ∙ ap (λ (x : ℕ). get_or (f x) a nan) (sym e)

pub listed-length : (d : ℕ) (g : Grid) → length (listed d g) ≡ points_of d g * d
listed-length d g = flat-length (row_of d g) d (row-length d g) (points_of d g)

pub listed-rows : (b : Box) (g : Grid) → 1 ≤ b.axes → rows_of b (listed b.axes g) ≡ points_of b.axes g
listed-rows b g h = ap (λ (n : ℕ). n / b.axes) (listed-length b.axes g) ∙ mul-div_cancel (points_of b.axes g) h

-- ---- a row's cells
module _ (f : Frame) (g : Grid) (r : ℕ) (R : r < points_of f.axes g) where
  abbrev pub point : List Float
  point = drop (r * f.axes) (listed f.axes g)

  listed_at : (a : ℕ) → a < f.axes → get_or (listed f.axes g) (r * f.axes + a) nan ≡ coordinate g a (index_on f.axes g a r)
  listed_at a h = let d = f.axes in flat-at (row_of d g) d (row-length d g) (points_of d g) r a R h ∙ row-at d g r a h

  pub point_at : (a : ℕ) → a < f.axes → get_or point a nan ≡ coordinate g a (index_on f.axes g a r)
  point_at a h =
      let d = f.axes in
      get_or-drop (r * d) (listed d g) a nan ∙ listed_at a h

  abbrev quotient_on : ℕ → Float
  quotient_on a = quotient (coordinate g a (index_on f.axes g a r)) (get_or f.displacement a nan) f.side

  point-cell : (a : ℕ) → a < f.axes → number_in (cell16 f point a) ≡ cell_number 65536 (floor (quotient_on a))
  point-cell a h =
      let d = f.axes in
      let number : Float → Option ℕ = λ x. cell_number 65536 (floor (quotient x (get_or f.displacement a nan) f.side)) in
      sym (number_read f (listed d g) (r * d) a (number (get_or (listed d g) (r * d + a) nan)) h refl) ∙ ap number (listed_at a h)

  step_is : (a : ℕ) → step_on f g a (index_on f.axes g a r) ≡ step_of (quotient_on a)
  unfolding step_on
  step_is a = refl

  -- cell k is step k + 1, and outside are step 0 and those past 65536
  pub cell-step : (a k : ℕ) → a < f.axes → cell16 f point a ≡ At k → (step_on f g a (index_on f.axes g a r) ≡ suc k) × (k < 65536)
  cell-step a k h e = let s = (stepped (quotient_on a)).inside k (sym (point-cell a h) ∙ ap number_in e) in (step_is a ∙ s.0, s.1)

  pub step-cell : (a : ℕ) → a < f.axes → 1 ≤ step_on f g a (index_on f.axes g a r) → step_on f g a (index_on f.axes g a r) ≤ 65536 → is_at (cell16 f point a) ≡ true
  step-cell a h l m = go (step_of (quotient_on a)) refl
    where
      go : (n : ℕ) → step_of (quotient_on a) ≡ n → is_at (cell16 f point a) ≡ true
      go zero e = absurd (omega (arith, step_is a))
      go (suc k) e = ap is_at (at-number (cell16 f point a) k (point-cell a h ∙ (stepped (quotient_on a)).named k e (omega (arith, step_is a))))

  pub step-outside : (a : ℕ) → a < f.axes → (step_on f g a (index_on f.axes g a r) ≡ 0) ⊎ (65536 < step_on f g a (index_on f.axes g a r)) → is_at (cell16 f point a) ≡ false
  unfolding step_on
  step-outside a h o = at_none (cell16 f point a) (point-cell a h ∙ (stepped (quotient_on a)).outside o)

-- ---- a point is inside if it is on each of its axes
module _ (f : Frame) (xs : List Float) (most : f.axes ≤ 3) where
  pub inside-axis : inside f xs ≡ true → (a : ℕ) → a < f.axes → is_at (cell16 f xs a) ≡ true
  unfolding inside
  inside-axis h zero l = and_l (is_at (cell16 f xs 0)) (is_at (cell16 f xs 1) && is_at (cell16 f xs 2)) h
  inside-axis h (suc zero) l = and_l (is_at (cell16 f xs 1)) (is_at (cell16 f xs 2)) (and_r (is_at (cell16 f xs 0)) (is_at (cell16 f xs 1) && is_at (cell16 f xs 2)) h)
  inside-axis h (suc (suc zero)) l = and_r (is_at (cell16 f xs 1)) (is_at (cell16 f xs 2)) (and_r (is_at (cell16 f xs 0)) (is_at (cell16 f xs 1) && is_at (cell16 f xs 2)) h)
  inside-axis h (suc (suc (suc a))) l = absurd (omega arith)

  pub axes-inside : ((a : ℕ) → a < f.axes → is_at (cell16 f xs a) ≡ true) → inside f xs ≡ true
  unfolding inside
  axes-inside h = both (on 0) (both (on 1) (on 2))
    where
      on : (a : ℕ) → is_at (cell16 f xs a) ≡ true
      on a = go (lt-or-le a f.axes)
        where
          go : (a < f.axes) ⊎ (f.axes ≤ a) → is_at (cell16 f xs a) ≡ true
          go (inl l) = h a l
          go (inr l) = ap is_at (sym (cell-past f xs a l))

-- ---- how many rows stand before the first that is outside
pub first-outside : (n k : ℕ) (f : Frame) (xs : List Float) → k ≤ n → ((r : ℕ) → r < k → inside f (drop (r * f.axes) xs) ≡ true) → (k < n → inside f (drop (k * f.axes) xs) ≡ false)
    → inside_rows n f xs ≡ k
first-outside n k f xs le ins out = go (lt-or-le (inside_rows n f xs) k) (lt-or-le k (inside_rows n f xs))
  where
    never : {t : Bool} → t ≡ true → t ≡ false → ⊥
    never p q = let z : ◌≡◌ {A = ℕ} 0 1 = cc in omega arith

    go : (inside_rows n f xs < k) ⊎ (k ≤ inside_rows n f xs) → (k < inside_rows n f xs) ⊎ (inside_rows n f xs ≤ k) → inside_rows n f xs ≡ k
    go (inl a) b = absurd (never (ins (inside_rows n f xs) a) (row-outside n f xs (omega arith)))
    go (inr a) (inl b) = absurd (never (row_inside n k f xs b) (out (omega (arith, rows-le n f xs))))
    go (inr a) (inr b) = omega arith
