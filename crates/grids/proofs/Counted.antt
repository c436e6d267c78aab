-- Where all points of a grid are inside, as many of the listed ones lie in a cell as the product of its ranges says.
use mathlib.Core.Path.{◌≡◌, refl, sym, ap, ◌∙◌, subst}
use mathlib.Core.Bool.{Bool, true, ◌&&◌}
use mathlib.Core.List.{List}
use Prim.Native.Nat.{ℕ, zero, suc, ◌+◌, ◌-◌, ◌*◌, ◌/◌, ◌^◌, ◌≤◌, ◌<◌}
use native.Mathlib.Nat.{zero-div, add-mul, one-mul, mod-eq_of_lt, div-eq_of_lt-le, div-mul-le_self, lt-div-mul-add}
use native.Mathlib.Omega.{arith}
use lib.Dec.{leb, eqb}
use lib.Ieee.{Float}
use lib.ListN.{get_or, get_or-map}
use lib.Pow.{pow_pos, shr_lt}
use borrow.Author.Tests.{leb-true, le-leb, eqb-true, eq-eqb}
use Rattle.slices.specs.Every.{every}
use Rattle.slices.proofs.Every.{every-at, every-all, every-same}
use Rattle.slices.proofs.Tests.{and_l, and_r, both, same_test}
use Rattle.codes.proofs.Codes.{encode-lt, anchor-encode}
use Rattle.morton.specs.Keys.{deepest, above}
use Rattle.morton.specs.Anchors.{anchor, encode}
use Rattle.morton.proofs.Nearness.{anchors-tell}
use Rattle.refine.specs.Counts.{count_at}
use Rattle.space.specs.declared.Box.{Box}
use Rattle.space.specs.declared.Frame.{Frame}
use Rattle.space.specs.declared.Place.TheVariants.{At}
use Rattle.space.specs.Cells.{frame_of, cell16, is_at, place_number, inside, anchors16, point_anchors, code16}
use Rattle.space.specs.Rows.{inside_rows, codes16, rows_of, rows_inside}
use Rattle.space.proofs.Points.{anchor-under}
use Rattle.space.proofs.Batches.{codes-length, code-at-row, row_inside}
use Rattle.points.proofs.Nesting.{is-at, code-above}
use Rattle.laying.specs.Points.{codes_of}
use Rattle.grids.specs.declared.Grid.{Grid}
use Rattle.grids.specs.Grids.{shape_on, points_of, index_on, listed}
use Rattle.grids.specs.Ranges.{step_on, tally, first_from, range_in, grid_count}
use Rattle.grids.proofs.Tallies.{count-tally, tally-same, tally-between, tally-product, product-same}
use Rattle.grids.proofs.Listing.{listed-rows, point, cell-step, inside-axis}

-- ---- a point's code at a level is a cell's exactly if its anchors are
module _ (f : Frame) (xs : List Float) (most : f.axes ≤ 3) (level code : ℕ) (l : level ≤ 16) (c : code < 2 ^ (f.axes * level)) where
  abbrev t : ℕ
  t = 16 - level

  sixteen : (a : ℕ) → a < 3 → get_or (anchors16 f xs) a 0 ≡ place_number (cell16 f xs a)
  unfolding anchors16
  sixteen zero h = refl
  sixteen (suc zero) h = refl
  sixteen (suc (suc zero)) h = refl
  sixteen (suc (suc (suc a))) h = absurd (omega arith)

  anchor-is : (a : ℕ) → a < f.axes → get_or (point_anchors f xs level) a 0 ≡ place_number (cell16 f xs a) / 2 ^ t
  anchor-is a h =
      let three : a < 3 = omega arith in
      ap (get_or (point_anchors f xs level) a) (sym (zero-div (2 ^ t))) ∙ get_or-map (λ k. k / 2 ^ t) (anchors16 f xs) a 0 ∙ ap (λ (n : ℕ). n / 2 ^ t) (sixteen a three)

  anchor-small : (a : ℕ) → a < f.axes → get_or (point_anchors f xs level) a 0 < 2 ^ level
  anchor-small a h =
      let e : 16 ≡ level + t = omega arith in
      subst (λ (n : ℕ). n < 2 ^ level) (sym (anchor-is a h)) (shr_lt level t (subst (λ (n : ℕ). place_number (cell16 f xs a) < 2 ^ n) e (anchor-under f xs a)))

  anchor-back : (a : ℕ) → a < f.axes → anchor f.axes a level (encode f.axes f.axes level (point_anchors f xs level)) ≡ place_number (cell16 f xs a) / 2 ^ t
  anchor-back a h = anchor-encode f.axes level a (point_anchors f xs level) h ∙ mod-eq_of_lt (anchor-small a h) ∙ anchor-is a h

  pub code-test : eqb (above f.axes (deepest - level) (code16 f xs)) code ≡ every f.axes (λ a. eqb (place_number (cell16 f xs a) / 2 ^ t) (anchor f.axes a level code))
  code-test =
      let d = f.axes in
      let e = encode d d level (point_anchors f xs level) in
      let p : ℕ → Bool = λ a. eqb (place_number (cell16 f xs a) / 2 ^ t) (anchor d a level code) in
      ap (λ (n : ℕ). eqb n code) (code-above f xs level l)
      ∙ same_test (eqb e code) (every d p)
      (λ h. every-all p d (λ a k. eq-eqb (place_number (cell16 f xs a) / 2 ^ t) (anchor d a level code) (sym (anchor-back a k) ∙ ap (anchor d a level) (eqb-true e code h))))
      (λ h. eq-eqb e code (anchors-tell d level e code (encode-lt d level (point_anchors f xs level)) c (λ a k. anchor-back a k ∙ eqb-true (place_number (cell16 f xs a) / 2 ^ t) (anchor d a level code) (every-at p d h a k))))

-- ---- cell k at level 16 lies in cell x of 2 ^ w cells exactly if its step is in a range
pub step-test : (w x k s : ℕ) → s ≡ suc k → eqb (k / 2 ^ w) x ≡ (leb (suc (x * 2 ^ w)) s && leb s ((x + 1) * 2 ^ w))
step-test w x k s e = same_test (eqb (k / 2 ^ w) x) (leb (suc (x * 2 ^ w)) s && leb s ((x + 1) * 2 ^ w)) into from
  where
    up : (x + 1) * 2 ^ w ≡ x * 2 ^ w + 2 ^ w
    up = add-mul x 1 (2 ^ w) ∙ ap (λ (n : ℕ). x * 2 ^ w + n) (one-mul (2 ^ w))

    into : eqb (k / 2 ^ w) x ≡ true → (leb (suc (x * 2 ^ w)) s && leb s ((x + 1) * 2 ^ w)) ≡ true
    into h =
        let q : k / 2 ^ w * 2 ^ w ≡ x * 2 ^ w = ap (λ (n : ℕ). n * 2 ^ w) (eqb-true (k / 2 ^ w) x h) in
        let a : suc (x * 2 ^ w) ≤ s = omega (arith, div-mul-le_self k (2 ^ w)) in
        let b : s ≤ (x + 1) * 2 ^ w = omega (arith, up, lt-div-mul-add {a = k} {b = 2 ^ w} (pow_pos w)) in
        both (le-leb (suc (x * 2 ^ w)) s a) (le-leb s ((x + 1) * 2 ^ w) b)

    from : (leb (suc (x * 2 ^ w)) s && leb s ((x + 1) * 2 ^ w)) ≡ true → eqb (k / 2 ^ w) x ≡ true
    from h =
        let a = leb-true (suc (x * 2 ^ w)) s (and_l (leb (suc (x * 2 ^ w)) s) (leb s ((x + 1) * 2 ^ w)) h) in
        let b = leb-true s ((x + 1) * 2 ^ w) (and_r (leb (suc (x * 2 ^ w)) s) (leb s ((x + 1) * 2 ^ w)) h) in
        let i : x * 2 ^ w ≤ k = omega arith in
        let j : k < (x + 1) * 2 ^ w = omega arith in
        eq-eqb (k / 2 ^ w) x (div-eq_of_lt-le {k = x} (2 ^ w) {m = k} i j)

-- ---- the count
module _ (f : Frame) (g : Grid) (most : f.axes ≤ 3) (level code : ℕ) (l : level ≤ 16) (c : code < 2 ^ (f.axes * level)) where
  abbrev w : ℕ
  w = 16 - level

  abbrev x : ℕ → ℕ
  x a = anchor f.axes a level code

  -- index i of axis a lies in the cell's range
  abbrev ranged : ℕ → ℕ → Bool
  ranged a i = leb (suc (x a * 2 ^ w)) (step_on f g a i) && leb (step_on f g a i) ((x a + 1) * 2 ^ w)

  row-test : (r : ℕ) (R : r < points_of f.axes g) → inside f (point f g r R) ≡ true
      → eqb (above f.axes (deepest - level) (code16 f (point f g r R))) code ≡ every f.axes (λ a. ranged a (index_on f.axes g a r))
  row-test r R i =
      let xs = point f g r R in
      code-test f xs most level code l c
      ∙ every-same (λ a. eqb (place_number (cell16 f xs a) / 2 ^ w) (x a)) (λ a. ranged a (index_on f.axes g a r)) f.axes
      (λ a h. step-test w (x a) (place_number (cell16 f xs a)) (step_on f g a (index_on f.axes g a r)) (cell-step f g r R a (place_number (cell16 f xs a)) h (is-at (cell16 f xs a) (inside-axis f xs most i a h))).0)

  range-is : (a : ℕ) → tally (ranged a) (shape_on g a) ≡ range_in f g a level (x a)
  unfolding first_from
  range-is a = tally-between (step_on f g a) (x a * 2 ^ w) ((x a + 1) * 2 ^ w) (shape_on g a) (omega (arith, add-mul (x a) 1 (2 ^ w)))

  pub counted-by : (n : ℕ) → n ≡ points_of f.axes g → inside_rows n f (listed f.axes g) ≡ n → count_at f.axes (codes16 n f (listed f.axes g)) level code ≡ grid_count f g level code
  unfolding count_at
  counted-by n N all =
      let d = f.axes in
      let xs = listed d g in
      let p : ℕ → Bool = λ k. eqb (above d (deepest - level) k) code in
      let ps : ℕ → Bool = λ i. p (get_or (codes16 n f xs) i 0) in
      let qs : ℕ → Bool = λ r. every d (λ a. ranged a (index_on d g a r)) in
      count-tally p (codes16 n f xs)
      ∙ ap (tally ps) (codes-length n f xs)
      ∙ tally-same ps qs n
      (λ r h. let R : r < points_of d g = omega arith in let i : r < inside_rows n f xs = omega arith in ap p (code-at-row n r f xs h) ∙ row-test r R (row_inside n r f xs i))
      ∙ ap (tally qs) N
      ∙ tally-product (shape_on g) ranged d
      ∙ product-same (λ a. tally (ranged a) (shape_on g a)) (λ a. range_in f g a level (x a)) 0 d (λ a h. range-is (0 + a))
