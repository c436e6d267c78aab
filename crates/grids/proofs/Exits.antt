-- The first row of a grid that is outside, and the first axis on which it is.
use mathlib.Core.Path.{◌≡◌, refl, sym, ap, ◌∙◌, subst}
use mathlib.Core.Bool.{Bool, true, false, ◌||◌, cond}
use mathlib.Core.Logic.{◌⊎◌, inl, inr}
use Prim.Native.Nat.{ℕ, zero, suc, zero-le, ◌+◌, ◌*◌, ◌/◌, ◌%◌, ◌≤◌, ◌<◌}
use native.Mathlib.Nat.{zero-div, mul-lt-mul_of_pos_right, lt_of_lt_of_le, le_of_eq, mod-lt, mod-le, mod-eq_of_lt, div-eq_of_lt, div-lt_iff_lt-mul, mul-div_cancel, zero-mod, sub-zero}
use native.Mathlib.Omega.{arith}
use lib.Dec.{ltb, eqb}
use lib.ListN.{drop}
use borrow.Author.Tests.{ltb-true, ltb-false, eqb-true, eqb-false}
use Rattle.slices.proofs.Tests.{lt-or-le, refute, clash}
use Rattle.space.specs.declared.Frame.{Frame}
use Rattle.space.specs.Cells.{cell16, is_at, inside}
use Rattle.space.specs.Rows.{inside_rows}
use Rattle.grids.specs.declared.Grid.{Grid}
use Rattle.grids.specs.declared.Exit.{Exit}
use Rattle.grids.specs.Grids.{shape_on, product, points_of, stride_on, index_on, listed}
use Rattle.grids.specs.Ranges.{first_from}
use Rattle.grids.specs.Exits.{starts_out, ends_out, or_else, first_of, last_of, exit_by, leaves, grid_exit}
use Rattle.grids.proofs.Products.{product-pos, stride-pos, later}
use Rattle.grids.proofs.Coordinates.{Axis, Framed, before, from}
use Rattle.grids.proofs.Halving.{first-le}
use Rattle.grids.proofs.Listing.{point, step-cell, step-outside, inside-axis, axes-inside, first-outside}
use Rattle.std.specs.Prelude.{None, Option, Some}

-- ---- the first and the last number that pass
at_same : (i j : ℕ) → Some i ≡ Some j → i ≡ j
at_same i j e = cc

not_found : (i : ℕ) → None ≡ Some i → ⊥
not_found i e = let z : ◌≡◌ {A = ℕ} 0 1 = cc in omega arith

pub record First (p : ℕ → Bool) (n i : ℕ) : Type 0 where
  pub within : i < n
  pub passes : p i ≡ true
  pub rest : (j : ℕ) → j < i → p j ≡ false

last-or-less : (j n : ℕ) → j < suc n → (j < n) ⊎ (j ≡ n)
last-or-less j n h = go (lt-or-le j n)
  where
    go : (j < n) ⊎ (n ≤ j) → (j < n) ⊎ (j ≡ n)
    go (inl l) = inl l
    go (inr l) = inr (omega arith)

first-none : (p : ℕ → Bool) (n : ℕ) → first_of p n ≡ None → (j : ℕ) → j < n → p j ≡ false
unfolding first_of
first-none p zero e j h = absurd (omega arith)
first-none p (suc n) e j h = go (first_of p n) refl (p n) refl e (last-or-less j n h) (first-none p n)
  where
    go : (y : Option ℕ) → first_of p n ≡ y → (t : Bool) → p n ≡ t → or_else y (cond t (Some n) None) ≡ None → (j < n) ⊎ (j ≡ n) → (first_of p n ≡ None → (j : ℕ) → j < n → p j ≡ false) → p j ≡ false
    go (Some i) q t r e l more = absurd (not_found i (sym e))
    go None q true r e l more = absurd (not_found n (sym e))
    go None q false r e (inl l) more = more q j l
    go None q false r e (inr l) more = ap p l ∙ r

first-at : (p : ℕ → Bool) (n i : ℕ) → first_of p n ≡ Some i → First p n i
unfolding first_of
first-at p zero i e = absurd (not_found i e)
first-at p (suc n) i e = go (first_of p n) refl (p n) refl e (first-at p n)
  where
    go : (y : Option ℕ) → first_of p n ≡ y → (t : Bool) → p n ≡ t → or_else y (cond t (Some n) None) ≡ Some i → ((k : ℕ) → first_of p n ≡ Some k → First p n k) → First p (suc n) i
    go (Some k) q t r e more =
        let f = more k q in
        let s : k ≡ i = at_same k i e in
        subst (λ (j : ℕ). First p (suc n) j) s (record { within = omega (arith, f.within); passes = f.passes; rest = f.rest })
    go None q true r e more =
        let s : n ≡ i = at_same n i e in
        subst (λ (j : ℕ). First p (suc n) j) s (record { within = omega arith; passes = r; rest = λ j l. first-none p n q j l })
    go None q false r e more = absurd (not_found i e)

pub record Last (p : ℕ → Bool) (n i : ℕ) : Type 0 where
  pub within : i < n
  pub passes : p i ≡ true
  pub rest : (j : ℕ) → i < j → j < n → p j ≡ false

last_none : (p : ℕ → Bool) (n : ℕ) → last_of p n ≡ None → (j : ℕ) → j < n → p j ≡ false
unfolding last_of
last_none p zero e j h = absurd (omega arith)
last_none p (suc n) e j h = go (p n) refl e (last-or-less j n h) (last_none p n)
  where
    go : (t : Bool) → p n ≡ t → cond t (Some n) (last_of p n) ≡ None → (j < n) ⊎ (j ≡ n) → (last_of p n ≡ None → (j : ℕ) → j < n → p j ≡ false) → p j ≡ false
    go true r e l more = absurd (not_found n (sym e))
    go false r e (inl l) more = more e j l
    go false r e (inr l) more = ap p l ∙ r

last-at : (p : ℕ → Bool) (n i : ℕ) → last_of p n ≡ Some i → Last p n i
unfolding last_of
last-at p zero i e = absurd (not_found i e)
last-at p (suc n) i e = go (p n) refl e (last-at p n i)
  where
    go : (t : Bool) → p n ≡ t → cond t (Some n) (last_of p n) ≡ Some i → (last_of p n ≡ Some i → Last p n i) → Last p (suc n) i
    go true r e more =
        let s : n ≡ i = at_same n i e in
        subst (λ (j : ℕ). Last p (suc n) j) s (record { within = omega arith; passes = r; rest = λ j l m. absurd (omega arith) })
    go false r e more =
        let f = more e in
        record { within = omega (arith, f.within); passes = f.passes; rest = λ j l m. rest_of f j l (last-or-less j n m) }
      where
        rest_of : Last p n i → (j : ℕ) → i < j → (j < n) ⊎ (j ≡ n) → p j ≡ false
        rest_of f j l (inl m) = f.rest j l m
        rest_of f j l (inr m) = ap p m ∙ r

-- ---- a row leaves the box
pub record Leaves (f : Frame) (g : Grid) (r a : ℕ) : Type 0 where
  pub row : r < points_of f.axes g
  pub first : inside_rows (points_of f.axes g) f (listed f.axes g) ≡ r
  pub axis : a < f.axes
  pub fails : is_at (cell16 f (drop (r * f.axes) (listed f.axes g)) a) ≡ false
  pub rest : (j : ℕ) → j < a → is_at (cell16 f (drop (r * f.axes) (listed f.axes g)) j) ≡ true

abbrev pub Exits : Frame → Grid → Option Exit → Type 0
Exits f g None = inside_rows (points_of f.axes g) f (listed f.axes g) ≡ points_of f.axes g
Exits f g (Some x) = Leaves f g x.row x.axis

module _ (f : Frame) (g : Grid) (most : f.axes ≤ 3) (framed : (a : ℕ) → a < f.axes → Framed f a) (known : (a : ℕ) → a < f.axes → Axis g a) where
  abbrev d : ℕ
  d = f.axes

  abbrev s : ℕ → ℕ
  s = shape_on g

  abbrev lo : ℕ → ℕ
  lo a = first_from f g a 0

  abbrev hi : ℕ → ℕ
  hi a = first_from f g a 65536

  some : (a : ℕ) → a < d → 1 ≤ s a
  some a h = (known a h).shape

  index-small : (r a : ℕ) → a < d → index_on d g a r < s a
  index-small r a h = mod-lt (r / stride_on d g a) (some a h)

  module _ (r : ℕ) (R : r < points_of d g) (a : ℕ) (h : a < d) where
    axis-in : lo a ≤ index_on d g a r → index_on d g a r < hi a → is_at (cell16 f (point f g r R) a) ≡ true
    axis-in l m =
        let i = index_on d g a r in
        step-cell f g r R a h (from f g a (framed a h) (known a h) 0 i (index-small r a h) l) (before f g a (framed a h) (known a h) 65536 i m)

    axis-low : index_on d g a r < lo a → is_at (cell16 f (point f g r R) a) ≡ false
    axis-low l = step-outside f g r R a h (inl (omega (arith, before f g a (framed a h) (known a h) 0 (index_on d g a r) l)))

    axis-high : hi a ≤ index_on d g a r → is_at (cell16 f (point f g r R) a) ≡ false
    axis-high l = step-outside f g r R a h (inr (from f g a (framed a h) (known a h) 65536 (index_on d g a r) (index-small r a h) l))

    row_out : is_at (cell16 f (point f g r R) a) ≡ false → inside f (point f g r R) ≡ false
    row_out o = refute (λ i. clash (inside-axis f (point f g r R) most i a h) o)

  points-pos : 0 < points_of d g
  points-pos = product-pos s 0 d (λ i l. some (0 + i) (omega arith))

  -- ---- row 0
  index-zero : (a : ℕ) → index_on d g a 0 ≡ 0
  index-zero a = ap (λ (k : ℕ). k % s a) (zero-div (stride_on d g a)) ∙ zero-mod (s a)

  starts-in : (a : ℕ) → starts_out f g a ≡ false → (lo a ≤ 0) × (0 < hi a)
  starts-in a e = go (ltb 0 (lo a)) refl (eqb (hi a) 0) refl e
    where
      go : (t : Bool) → ltb 0 (lo a) ≡ t → (u : Bool) → eqb (hi a) 0 ≡ u → (t || u) ≡ false → (lo a ≤ 0) × (0 < hi a)
      go true p u q e = absurd (clash refl e)
      go false p true q e = absurd (clash refl e)
      go false p false q e = (ltb-false 0 (lo a) p, more (hi a) (eqb-false (hi a) 0 q))
        where
          more : (n : ℕ) → (n ≡ 0 → ⊥) → 0 < n
          more zero h = absurd (h refl)
          more (suc n) h = omega arith

  starts-out : (a : ℕ) (h : a < d) → starts_out f g a ≡ true → is_at (cell16 f (point f g 0 points-pos) a) ≡ false
  starts-out a h e = go (ltb 0 (lo a)) refl e
    where
      go : (t : Bool) → ltb 0 (lo a) ≡ t → (t || eqb (hi a) 0) ≡ true → is_at (cell16 f (point f g 0 points-pos) a) ≡ false
      go true p e = axis-low 0 points-pos a h (omega (arith, index-zero a, ltb-true 0 (lo a) p))
      go false p e = axis-high 0 points-pos a h (omega (arith, index-zero a, eqb-true (hi a) 0 e))

  leaves-first : (a : ℕ) → First (starts_out f g) d a → Leaves f g 0 a
  leaves-first a F =
      let o = starts-out a F.within F.passes in
      record {
        row = points-pos;
        first = first-outside (points_of d g) 0 f (listed d g) zero-le (λ r l. absurd (none r l)) (λ k. row_out 0 points-pos a F.within o);
        axis = F.within;
        fails = o;
        rest = λ j l.
            let m : j < d = omega (arith, F.within) in
            let i = starts-in j (F.rest j l) in
            axis-in 0 points-pos j m (omega (arith, i.0)) (omega (arith, index-zero j, i.1));
      }
    where
      none : (r : ℕ) → r < 0 → ⊥
      none r l = omega arith

  -- ---- a later row
  module _ (starts : (a : ℕ) → a < d → starts_out f g a ≡ false) where
    in-below : (r : ℕ) (R : r < points_of d g) (a : ℕ) (h : a < d) → index_on d g a r < hi a → is_at (cell16 f (point f g r R) a) ≡ true
    in-below r R a h l = axis-in r R a h (omega (arith, (starts-in a (starts a h)).0)) l

    in_whole : (r : ℕ) (R : r < points_of d g) (a : ℕ) (h : a < d) → ends_out f g a ≡ false → is_at (cell16 f (point f g r R) a) ≡ true
    in_whole r R a h e = in-below r R a h (omega (arith, index-small r a h, ltb-false (hi a) (s a) e))

    in-early : (r : ℕ) (R : r < points_of d g) (a : ℕ) (h : a < d) → r < stride_on d g a → is_at (cell16 f (point f g r R) a) ≡ true
    in-early r R a h l =
        let z : index_on d g a r ≡ 0 = ap (λ (k : ℕ). k % s a) (div-eq_of_lt l) ∙ zero-mod (s a) in
        in-below r R a h (omega (arith, (starts-in a (starts a h)).1))

    all_stay : ((a : ℕ) → a < d → ends_out f g a ≡ false) → inside_rows (points_of d g) f (listed d g) ≡ points_of d g
    all_stay ends =
        first-outside (points_of d g) (points_of d g) f (listed d g) (le_of_eq refl)
        (λ r l. axes-inside f (point f g r l) most (λ a h. in_whole r l a h (ends a h)))
        (λ k. absurd (less (points_of d g) k))
      where
        less : (n : ℕ) → n < n → ⊥
        less n h = omega arith

    module _ (a : ℕ) (L : Last (ends_out f g) d a) where
      abbrev row : ℕ
      row = hi a * stride_on d g a

      short : hi a < s a
      short = ltb-true (hi a) (s a) L.passes

      under : row < s a * stride_on d g a
      under = mul-lt-mul_of_pos_right short (stride-pos s d some a)

      in-grid : row < points_of d g
      in-grid = lt_of_lt_of_le under (subst (λ (n : ℕ). s a * stride_on d g a ≤ product s 0 n) (sub-zero d) (later s d some 0 a zero-le L.within))

      -- before axis a all rows up to this one have index 0
      early : (j : ℕ) → j < a → row < stride_on d g j
      early j l = lt_of_lt_of_le under (later s d some (suc j) a l L.within)

      rows_before : (r : ℕ) → r < row → (R : r < points_of d g) → (j : ℕ) → j < d → is_at (cell16 f (point f g r R) j) ≡ true
      rows_before r l R j h = go (lt-or-le j a) (lt-or-le a j)
        where
          go : (j < a) ⊎ (a ≤ j) → (a < j) ⊎ (j ≤ a) → is_at (cell16 f (point f g r R) j) ≡ true
          go (inl p) q = in-early r R j h (omega (arith, early j p))
          go (inr p) (inl q) = in_whole r R j h (L.rest j q h)
          go (inr p) (inr q) =
              let e : a ≡ j = omega arith in
              let x : r / stride_on d g a < hi a = (div-lt_iff_lt-mul (stride-pos s d some a)).1 l in
              subst (λ (k : ℕ). is_at (cell16 f (point f g r R) k) ≡ true) e (in-below r R a L.within (omega (arith, mod-le (r / stride_on d g a) (s a))))

      own-index : index_on d g a row ≡ hi a
      own-index = ap (λ (k : ℕ). k % s a) (mul-div_cancel (hi a) (stride-pos s d some a)) ∙ mod-eq_of_lt short

      leaves_later : Leaves f g row a
      leaves_later =
          let o = axis-high row in-grid a L.within (le_of_eq (sym own-index)) in
          record {
            row = in-grid;
            first =
                first-outside (points_of d g) row f (listed d g) (less row (points_of d g) in-grid)
                (λ r l. let R : r < points_of d g = through r row (points_of d g) l in-grid in axes-inside f (point f g r R) most (rows_before r l R))
                (λ k. row_out row in-grid a L.within o);
            axis = L.within;
            fails = o;
            rest = λ j l. in-early row in-grid j (omega (arith, L.within)) (early j l);
          }
        where
          less : (x y : ℕ) → x < y → x ≤ y
          less x y h = omega arith

          through : (x y z : ℕ) → x < y → y < z → x < z
          through x y z h k = omega arith

  -- where no row is outside each axis begins and ends inside
  pub stays-whole : grid_exit f g ≡ None → (a : ℕ) → a < d → (first_from f g a 0 ≡ 0) × (first_from f g a 65536 ≡ shape_on g a)
  stays-whole e a h = go (first_of (starts_out f g) d) refl (last_of (ends_out f g) d) refl e
    where
      never : (r b : ℕ) → leaves r b ≡ None → ⊥
      never r b q = let z : ◌≡◌ {A = ℕ} 0 1 = cc in omega arith

      go : (x : Option ℕ) → first_of (starts_out f g) d ≡ x → (y : Option ℕ) → last_of (ends_out f g) d ≡ y → exit_by f g x y ≡ None → (first_from f g a 0 ≡ 0) × (first_from f g a 65536 ≡ shape_on g a)
      go (Some b) p y q e = absurd (never 0 b e)
      go None p (Some b) q e = absurd (never (hi b * stride_on d g b) b e)
      go None p None q e =
          let i = starts-in a (first-none (starts_out f g) d p a h) in
          let j = ltb-false (hi a) (s a) (last_none (ends_out f g) d q a h) in
          (omega (arith, i.0), omega (arith, j, first-le f g a 65536))

  pub exits : Exits f g (grid_exit f g)
  exits = go (first_of (starts_out f g) d) refl (last_of (ends_out f g) d) refl
    where
      go : (x : Option ℕ) → first_of (starts_out f g) d ≡ x → (y : Option ℕ) → last_of (ends_out f g) d ≡ y → Exits f g (exit_by f g x y)
      go (Some a) p y q = leaves-first a (first-at (starts_out f g) d a p)
      go None p (Some a) q = leaves_later (first-none (starts_out f g) d p) a (last-at (ends_out f g) d a q)
      go None p None q = all_stay (first-none (starts_out f g) d p) (last_none (ends_out f g) d q)
