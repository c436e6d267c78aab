-- A point's level-16 cells, axis by axis.
use mathlib.Core.Path.{◌≡◌, refl, sym, ap, ◌∙◌, subst}
use mathlib.Core.Bool.{Bool, true, false}
use mathlib.Core.List.{List, [], ◌∷◌}
use Prim.Native.Nat.{ℕ, ◌+◌, ◌≤◌, ◌<◌}
use native.Mathlib.Omega.{arith}
use lib.Dec.{ltb, lit<}
use lib.IntN.{pos, negsuc}
use lib.Ieee.{Float, nan, binary64, sub, of_bits, lt}
use lib.ListN.{get_or, drop}
use lib.Seq.{get_or-drop}
use borrow.Author.Tests.{lt-ltb, le-ltb, ltb-true}
use Rattle.anchors.proofs.Placing.{code_fits}
use Rattle.space.specs.declared.Box.{Box}
use Rattle.space.specs.declared.Frame.{Frame}
use Rattle.space.specs.declared.Place.{Place}
use Rattle.space.specs.declared.Place.TheVariants.{At, NotFinite, Below, Above}
use Rattle.space.specs.Floats.{nought, is_finite, Floor, no_floor, whole, floor}
use Rattle.space.specs.Cells.{displacement, quotient, side, pick, cell_number, wall_by, cell_in, cell_of, cell16, is_at, place_number, number_in, inside, anchors16, code16, kept, point_code, located_of}
use Rattle.codes.specs.Anchors.{Bytes2}
use Rattle.morton.specs.Anchors.{encode}
use Rattle.space.proofs.Literals.{zero_is}
use Rattle.std.specs.Prelude.{None, Option, Some}

-- a box's displacements
pub displaced : (b : Box) (a : ℕ) → a < b.axes → sub binary64 (get_or b.centre a nan) b.radius ≡ displacement b a
displaced b a h = rw (lt-ltb a b.axes h)

pub not-displaced : (b : Box) (a : ℕ) → b.axes ≤ a → of_bits binary64 0 ≡ displacement b a
not-displaced b a h = rw (le-ltb a b.axes h) zero_is

-- a point's cells
module _ (f : Frame) (xs : List Float) where
  pub cell-past : (a : ℕ) → f.axes ≤ a → At 0 ≡ cell16 f xs a
  unfolding cell16
  cell-past a h = rw (le-ltb a f.axes h)

  pub cell-on : (a : ℕ) → a < f.axes → cell16 f xs a ≡ cell_of 65536 (get_or xs a nan) (get_or f.displacement a nan) f.side
  unfolding cell16
  cell-on a h = rw (lt-ltb a f.axes h)

pub cell-read : (f : Frame) (xs : List Float) (at a : ℕ) (p : Place) → a < f.axes
    → p ≡ cell_of 65536 (get_or xs (at + a) nan) (get_or f.displacement a nan) f.side → p ≡ cell16 f (drop at xs) a
cell-read f xs at a p h e =
    e ∙ ap (λ x. cell_of 65536 x (get_or f.displacement a nan) f.side) (sym (get_or-drop at xs a nan)) ∙ sym (cell-on f (drop at xs) a h)

-- a cell with its wall, and without
module _ (n : ℕ) (y : Floor) (w : Place) where
  pub with_number : (k : ℕ) → cell_number n y ≡ Some k → At k ≡ cell_in n y w
  with_number k h = go y h
    where
      go : (y : Floor) → cell_number n y ≡ Some k → At k ≡ cell_in n y w
      go no_floor g = let z : ◌≡◌ {A = ℕ} 0 1 = cc in absurd (omega arith)
      go (whole (negsuc j)) g = let z : ◌≡◌ {A = ℕ} 0 1 = cc in absurd (omega arith)
      go (whole (pos j)) g = by (ltb j n) g
        where
          by : (t : Bool) → kept t j ≡ Some k → At k ≡ pick t (At j) w
          by true g = let e : j ≡ k = cc in ap At (sym e)
          by false g = let z : ◌≡◌ {A = ℕ} 0 1 = cc in absurd (omega arith)

  pub with-wall : cell_number n y ≡ None → w ≡ cell_in n y w
  with-wall h = go y h
    where
      go : (y : Floor) → cell_number n y ≡ None → w ≡ cell_in n y w
      go no_floor g = refl
      go (whole (negsuc j)) g = refl
      go (whole (pos j)) g = by (ltb j n) g
        where
          by : (t : Bool) → kept t j ≡ None → w ≡ pick t (At j) w
          by true g = let z : ◌≡◌ {A = ℕ} 0 1 = cc in absurd (omega arith)
          by false g = refl

  pub without : number_in w ≡ None → cell_number n y ≡ number_in (cell_in n y w)
  without h = go y
    where
      go : (y : Floor) → cell_number n y ≡ number_in (cell_in n y w)
      go no_floor = sym h
      go (whole (negsuc j)) = sym h
      go (whole (pos j)) = by (ltb j n)
        where
          by : (t : Bool) → kept t j ≡ number_in (pick t (At j) w)
          by true = refl
          by false = sym h

no_cell : (x q : Float) → number_in (wall_by x q) ≡ None
no_cell x q = go (is_finite x) (lt q nought)
  where
    go : (s t : Bool) → number_in (pick s (pick t Below Above) NotFinite) ≡ None
    go true true = refl
    go true false = refl
    go false t = refl

pub number_past : (f : Frame) (xs : List Float) (a : ℕ) → f.axes ≤ a → Some 0 ≡ number_in (cell16 f xs a)
number_past f xs a h = ap number_in (cell-past f xs a h)

pub number_read : (f : Frame) (xs : List Float) (at a : ℕ) (p : Option ℕ) → a < f.axes
    → p ≡ cell_number 65536 (floor (quotient (get_or xs (at + a) nan) (get_or f.displacement a nan) f.side)) → p ≡ number_in (cell16 f (drop at xs) a)
number_read f xs at a p h e =
    let x = get_or xs (at + a) nan in
    let q = quotient x (get_or f.displacement a nan) f.side in
    e ∙ without 65536 (floor q) (wall_by x q) (no_cell x q) ∙ ap number_in (cell-read f xs at a (cell_of 65536 x (get_or f.displacement a nan) f.side) h refl)

-- a coordinate at a cell, and one at none
pub at-number : (p : Place) (k : ℕ) → number_in p ≡ Some k → p ≡ At k
at-number (At j) k h = cc
at-number NotFinite k h = let z : ◌≡◌ {A = ℕ} 0 1 = cc in absurd (omega arith)
at-number Below k h = let z : ◌≡◌ {A = ℕ} 0 1 = cc in absurd (omega arith)
at-number Above k h = let z : ◌≡◌ {A = ℕ} 0 1 = cc in absurd (omega arith)

pub at_none : (p : Place) → number_in p ≡ None → is_at p ≡ false
at_none (At j) h = let z : ◌≡◌ {A = ℕ} 0 1 = cc in absurd (omega arith)
at_none NotFinite h = refl
at_none Below h = refl
at_none Above h = refl

-- the point is outside by axis 0, 1 or 2, or inside
module _ (f : Frame) (xs : List Float) where
  pub out-0 : number_in (cell16 f xs 0) ≡ None → inside f xs ≡ false
  unfolding inside
  out-0 h = rw (at_none (cell16 f xs 0) h)

  pub out-1 : (x : ℕ) → number_in (cell16 f xs 0) ≡ Some x → number_in (cell16 f xs 1) ≡ None → inside f xs ≡ false
  unfolding inside
  out-1 x h i = rw (at-number (cell16 f xs 0) x h, at_none (cell16 f xs 1) i)

  pub out-2 : (x y : ℕ) → number_in (cell16 f xs 0) ≡ Some x → number_in (cell16 f xs 1) ≡ Some y → number_in (cell16 f xs 2) ≡ None → inside f xs ≡ false
  unfolding inside
  out-2 x y h i j = rw (at-number (cell16 f xs 0) x h, at-number (cell16 f xs 1) y i, at_none (cell16 f xs 2) j)

  pub outside-located : inside f xs ≡ false → None ≡ located_of f xs
  outside-located h = rw h

  pub all_in : (x y z : ℕ) → number_in (cell16 f xs 0) ≡ Some x → number_in (cell16 f xs 1) ≡ Some y → number_in (cell16 f xs 2) ≡ Some z
      → Some (x ∷ y ∷ z ∷ []) ≡ located_of f xs
  unfolding inside anchors16
  all_in x y z h i j = rw (at-number (cell16 f xs 0) x h, at-number (cell16 f xs 1) y i, at-number (cell16 f xs 2) z j)

-- ---- anchors are below 65536
no_number : (x q : Float) → place_number (wall_by x q) ≡ 0
no_number x q = go (is_finite x) (lt q nought)
  where
    go : (s t : Bool) → place_number (pick s (pick t Below Above) NotFinite) ≡ 0
    go true true = refl
    go true false = refl
    go false t = refl

number-under : (n : ℕ) (y : Floor) (w : Place) → place_number w < n → place_number (cell_in n y w) < n
number-under n no_floor w h = h
number-under n (whole (negsuc k)) w h = h
number-under n (whole (pos k)) w h = go (ltb k n) refl
  where
    go : (t : Bool) → ltb k n ≡ t → place_number (pick t (At k) w) < n
    go true e = ltb-true k n e
    go false e = h

module _ (f : Frame) (xs : List Float) where
  pub anchor-under : (a : ℕ) → place_number (cell16 f xs a) < 65536
  unfolding cell16
  anchor-under a = go (ltb a f.axes)
    where
      go : (t : Bool) → place_number (pick t (cell_of 65536 (get_or xs a nan) (get_or f.displacement a nan) f.side) (At 0)) < 65536
      go true =
          let x = get_or xs a nan in
          let q = quotient x (get_or f.displacement a nan) f.side in
          number-under 65536 (floor q) (wall_by x q) (subst (λ n. n < 65536) (sym (no_number x q)) (lit< tt))
      go false = lit< tt

  pub two_bytes : (l : List ℕ) → l ≡ anchors16 f xs → Bytes2 l
  unfolding anchors16
  two_bytes l e = subst Bytes2 (sym e) (record { first = anchor-under 0; second = anchor-under 1; third = anchor-under 2 })

  -- what `locate` answers, taken apart
  pub located-in : (anchor : List ℕ) → Some anchor ≡ located_of f xs → (inside f xs ≡ true) × (anchor ≡ anchors16 f xs)
  located-in anchor e = go (inside f xs) refl e
    where
      go : (t : Bool) → inside f xs ≡ t → Some anchor ≡ kept t (anchors16 f xs) → (inside f xs ≡ true) × (anchor ≡ anchors16 f xs)
      go true i g = (i, cc)
      go false i g = let z : ◌≡◌ {A = ℕ} 0 1 = cc in absurd (omega arith)

  pub located-out : None ≡ located_of f xs → inside f xs ≡ false
  located-out e = go (inside f xs) refl e
    where
      go : (t : Bool) → inside f xs ≡ t → None ≡ kept t (anchors16 f xs) → inside f xs ≡ false
      go true i g = let z : ◌≡◌ {A = ℕ} 0 1 = cc in absurd (omega arith)
      go false i g = i

  pub place_in : (k : ℕ) → inside f xs ≡ true → k ≡ encode f.axes f.axes 16 (anchors16 f xs) → Some k ≡ point_code f xs
  unfolding code16
  place_in k h e = rw (h, e)

  pub place_out : inside f xs ≡ false → None ≡ point_code f xs
  place_out h = rw h

  pub placed-in : (k : ℕ) → point_code f xs ≡ Some k → (inside f xs ≡ true) × (k ≡ code16 f xs)
  placed-in k h = go (inside f xs) refl h
    where
      go : (t : Bool) → inside f xs ≡ t → kept t (code16 f xs) ≡ Some k → (inside f xs ≡ true) × (k ≡ code16 f xs)
      go true e g = (e, cc)
      go false e g = let z : ◌≡◌ {A = ℕ} 0 1 = cc in absurd (omega arith)

  pub placed-out : point_code f xs ≡ None → inside f xs ≡ false
  placed-out h = go (inside f xs) refl h
    where
      go : (t : Bool) → inside f xs ≡ t → kept t (code16 f xs) ≡ None → inside f xs ≡ false
      go true e g = let z : ◌≡◌ {A = ℕ} 0 1 = cc in absurd (omega arith)
      go false e g = e

-- a level-16 code has at most 48 bits
pub code-small : (f : Frame) (xs : List Float) → f.axes ≤ 3 → code16 f xs < 281474976710656
unfolding code16
code-small f xs h = code_fits f.axes 16 (anchors16 f xs) h (native.Mathlib.Nat.le_of_eq refl)
