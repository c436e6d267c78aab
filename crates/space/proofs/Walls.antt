-- Order 5's walls: what the calls ask of a coordinate, and what a wall tells of its point.
use mathlib.Core.Path.{◌≡◌, refl, sym, ap, ◌∙◌, subst}
use mathlib.Core.Bool.{Bool, true, false, not, cond, ◌&&◌, true≢false, beq}
use mathlib.Core.List.{List}
use Prim.Native.Nat.{ℕ, zero, suc, ◌<◌}
use native.Mathlib.Omega.{arith}
use native.Mathlib.Decide.{dec_lt}
use lib.IntN.{pos, negsuc}
use lib.Dec.{eqb, ltb}
use lib.Ieee.{Float, nan, inf, fin, binary64, of_bits, neg, add, sub, div, lt}
use lib.ListN.{get_or}
use borrow.Author.Tests.{eq-eqb, ne_eqb, eqb-true}
use Rattle.refusal.specs.declared.Wall.{Wall}
use Rattle.space.specs.declared.Frame.{Frame}
use Rattle.space.specs.declared.Place.{Place}
use Rattle.space.specs.declared.Place.TheVariants.{At, NotFinite, Below, Above}
use Rattle.space.specs.Floats.{nought, is_finite, Floor, no_floor, whole, floor}
use Rattle.space.specs.Cells.{quotient, pick, wall_by, cell_in, is_at, cell16, inside}
use Rattle.space.specs.Walls.{reason_of, wall_on, or_next, first_wall}
use Rattle.space.proofs.Points.{cell-past, cell-on}
use Rattle.space.proofs.Literals.{zero_is, top-is, minus-top-is}

-- ---- what `is_finite` asks
pub under_top : (x : Float) → lt x (of_bits binary64 9218868437227405312) ≡ true → lt (neg (of_bits binary64 9218868437227405312)) x ≡ is_finite x
unfolding lt
under_top x h = ap (λ t. lt t x) minus-top-is ∙ go x (sym (ap (lt x) top-is) ∙ h)
  where
    go : (x : Float) → lt x (inf false) ≡ true → lt (inf true) x ≡ is_finite x
    go nan h = absurd (true≢false (sym h))
    go (inf true) h = refl
    go (inf false) h = absurd (true≢false (sym h))
    go (fin s m e) h = refl

pub not-under-top : (x : Float) → lt x (of_bits binary64 9218868437227405312) ≡ false → false ≡ is_finite x
unfolding lt
not-under-top x h = go x (sym (ap (lt x) top-is) ∙ h)
  where
    go : (x : Float) → lt x (inf false) ≡ false → false ≡ is_finite x
    go nan h = refl
    go (inf s) h = refl
    go (fin s m e) h = absurd (true≢false h)

-- ---- what `wall_by` asks
module _ (x q : Float) where
  pub by-rubbish : is_finite x ≡ false → NotFinite ≡ wall_by x q
  by-rubbish h = rw h

  pub by-lower : is_finite x ≡ true → lt q (of_bits binary64 0) ≡ true → Below ≡ wall_by x q
  by-lower h l = let z : lt q nought ≡ true = sym (ap (lt q) zero_is) ∙ l in rw (h, z)

  pub by-upper : is_finite x ≡ true → lt q (of_bits binary64 0) ≡ false → Above ≡ wall_by x q
  by-upper h l = let z : lt q nought ≡ false = sym (ap (lt q) zero_is) ∙ l in rw (h, z)

-- ---- what `wall_of` asks
no-reason : (p : Place) → is_at p ≡ eqb (reason_of p) 0
no-reason (At k) = refl
no-reason NotFinite = refl
no-reason Below = refl
no-reason Above = refl

module _ (index : ℕ) (f : Frame) (xs : List Float) where
  on-axis : (a x : ℕ) → x ≡ reason_of (cell16 f xs a) → record { index = index; axis = a; reason = x } ≡ wall_on index f xs a
  on-axis a x e = ap (λ (r : ℕ). record { index = index; axis = a; reason = r }) e

  at-cell : (a x : ℕ) → x ≡ reason_of (cell16 f xs a) → x ≡ 0 → is_at (cell16 f xs a) ≡ true
  at-cell a x e z = no-reason (cell16 f xs a) ∙ ap (λ r. eqb r 0) (sym e ∙ z)

  at-wall : (a x : ℕ) → x ≡ reason_of (cell16 f xs a) → (x ≡ 0 → ⊥) → is_at (cell16 f xs a) ≡ false
  at-wall a x e z = no-reason (cell16 f xs a) ∙ ap (λ r. eqb r 0) (sym e) ∙ ne_eqb x 0 z

  module _ (x : ℕ) (ex : x ≡ reason_of (cell16 f xs 0)) where
    pub wall-0 : (w : Wall) → w ≡ record { index = index; axis = 0; reason = x } → (x ≡ 0 → ⊥) → w ≡ first_wall index f xs
    unfolding first_wall
    wall-0 w e n = e ∙ on-axis 0 x ex ∙ rw (at-wall 0 x ex n)

    module _ (zx : x ≡ 0) (y : ℕ) (ey : y ≡ reason_of (cell16 f xs 1)) where
      pub wall-1 : (w : Wall) → w ≡ record { index = index; axis = 1; reason = y } → (y ≡ 0 → ⊥) → w ≡ first_wall index f xs
      unfolding first_wall
      wall-1 w e n = e ∙ on-axis 1 y ey ∙ rw (at-cell 0 x ex zx, at-wall 1 y ey n)

      pub wall-2 : y ≡ 0 → (z : ℕ) → z ≡ reason_of (cell16 f xs 2) → (w : Wall) → w ≡ record { index = index; axis = 2; reason = z } → w ≡ first_wall index f xs
      unfolding first_wall
      wall-2 zy z ez w e = e ∙ on-axis 2 z ez ∙ rw (at-cell 0 x ex zx, at-cell 1 y ey zy)

-- ---- a coordinate that is not finite has no floor, whatever the displacement and the side are
nan-none : (y : Float) → floor (div binary64 nan y) ≡ no_floor
unfolding div floor
nan-none y = refl

inf-none : (s : Bool) (y : Float) → floor (div binary64 (inf s) y) ≡ no_floor
unfolding div floor
inf-none s nan = refl
inf-none s (inf t) = refl
inf-none s (fin t n d) = refl

some-none : (b s : Bool) (y : Float) → floor (div binary64 (cond b (inf s) nan) y) ≡ no_floor
some-none true s y = inf-none s y
some-none false s y = nan-none y

pub not_finite : (x d y : Float) → is_finite x ≡ false → floor (quotient x d y) ≡ no_floor
unfolding sub add neg
not_finite nan d y h = nan-none y
not_finite (inf s) nan y h = nan-none y
not_finite (inf s) (inf t) y h = some-none (beq s (not t)) s y
not_finite (inf s) (fin t n e) y h = inf-none s y
not_finite (fin s m e) d y h = absurd (true≢false h)

-- ---- what a wall tells
-- the index is the one given
pub wall-index : (index : ℕ) (f : Frame) (xs : List Float) → (first_wall index f xs).index ≡ index
unfolding first_wall
wall-index index f xs = go (is_at (cell16 f xs 0)) (is_at (cell16 f xs 1))
  where
    go : (s t : Bool) → (or_next s (wall_on index f xs 0) (or_next t (wall_on index f xs 1) (wall_on index f xs 2))).index ≡ index
    go false t = refl
    go true false = refl
    go true true = refl

-- a point that is outside: its wall is on one of the axes, at no cell there, and at a cell on every axis before
pub record Behind (f : Frame) (xs : List Float) (w : Wall) : Type 0 where
  pub on : w.axis < f.axes
  pub out : is_at (cell16 f xs w.axis) ≡ false
  pub told : w.reason ≡ reason_of (cell16 f xs w.axis)
  pub before : (a : ℕ) → a < w.axis → is_at (cell16 f xs a) ≡ true

module _ (f : Frame) (xs : List Float) where
  on-an-axis : (a : ℕ) → is_at (cell16 f xs a) ≡ false → a < f.axes
  on-an-axis a h = go (dec_lt a f.axes)
    where
      go : Dec (a < f.axes) → a < f.axes
      go (yes l) = l
      go (no n) = absurd (true≢false (ap is_at (cell-past f xs a (omega arith)) ∙ h))

  module _ (index : ℕ) where
    -- inside exactly where no axis has a wall
    pub inside-no-wall : inside f xs ≡ eqb (first_wall index f xs).reason 0
    unfolding first_wall inside
    inside-no-wall = go (is_at (cell16 f xs 0)) (is_at (cell16 f xs 1)) (no-reason (cell16 f xs 0)) (no-reason (cell16 f xs 1)) (no-reason (cell16 f xs 2))
      where
        go : (s t : Bool) → s ≡ eqb (reason_of (cell16 f xs 0)) 0 → t ≡ eqb (reason_of (cell16 f xs 1)) 0 → is_at (cell16 f xs 2) ≡ eqb (reason_of (cell16 f xs 2)) 0
            → (s && (t && is_at (cell16 f xs 2))) ≡ eqb (or_next s (wall_on index f xs 0) (or_next t (wall_on index f xs 1) (wall_on index f xs 2))).reason 0
        go false t e d c = e
        go true false e d c = d
        go true true e d c = c

    pub behind : inside f xs ≡ false → Behind f xs (first_wall index f xs)
    unfolding first_wall inside
    behind h = go (is_at (cell16 f xs 0)) (is_at (cell16 f xs 1)) (is_at (cell16 f xs 2)) refl refl refl h
      where
        before-1 : is_at (cell16 f xs 0) ≡ true → (a : ℕ) → a < 1 → is_at (cell16 f xs a) ≡ true
        before-1 e zero l = e
        before-1 e (suc a) l = absurd (omega arith)

        before-2 : is_at (cell16 f xs 0) ≡ true → is_at (cell16 f xs 1) ≡ true → (a : ℕ) → a < 2 → is_at (cell16 f xs a) ≡ true
        before-2 e d zero l = e
        before-2 e d (suc zero) l = d
        before-2 e d (suc (suc a)) l = absurd (omega arith)

        go : (r s t : Bool) → is_at (cell16 f xs 0) ≡ r → is_at (cell16 f xs 1) ≡ s → is_at (cell16 f xs 2) ≡ t → (r && (s && t)) ≡ false
            → Behind f xs (or_next r (wall_on index f xs 0) (or_next s (wall_on index f xs 1) (wall_on index f xs 2)))
        go false s t e d c g = record { on = on-an-axis 0 e; out = e; told = refl; before = λ a l. absurd (omega arith) }
        go true false t e d c g = record { on = on-an-axis 1 d; out = d; told = refl; before = before-1 e }
        go true true false e d c g = record { on = on-an-axis 2 c; out = c; told = refl; before = before-2 e d }
        go true true true e d c g = absurd (true≢false g)

-- what a reason tells of the coordinate x with quotient q, and reason 1 of every coordinate that is not finite
by-reason : (n : ℕ) (y : Floor) (w : Place) (r : ℕ) → reason_of (cell_in n y w) ≡ suc r → cell_in n y w ≡ w
by-reason n no_floor w r h = refl
by-reason n (whole (negsuc k)) w r h = refl
by-reason n (whole (pos k)) w r h = go (ltb k n) h
  where
    go : (t : Bool) → reason_of (pick t (At k) w) ≡ suc r → pick t (At k) w ≡ w
    go true g = absurd (omega arith)
    go false g = refl

module _ (f : Frame) (xs : List Float) (a : ℕ) (l : a < f.axes) where
  abbrev x : Float
  x = get_or xs a nan

  abbrev q : Float
  q = quotient x (get_or f.displacement a nan) f.side

  by-wall : (r : ℕ) → reason_of (cell16 f xs a) ≡ suc r → reason_of (wall_by x q) ≡ suc r
  by-wall r h = let c = cell-on f xs a l in ap reason_of (sym (by-reason 65536 (floor q) (wall_by x q) r (sym (ap reason_of c) ∙ h))) ∙ sym (ap reason_of c) ∙ h

  pub reason-1 : reason_of (cell16 f xs a) ≡ 1 → is_finite x ≡ false
  reason-1 h = go (is_finite x) (lt q nought) refl (by-wall 0 h)
    where
      go : (s t : Bool) → is_finite x ≡ s → reason_of (pick s (pick t Below Above) NotFinite) ≡ 1 → is_finite x ≡ false
      go true true e g = absurd (omega arith)
      go true false e g = absurd (omega arith)
      go false t e g = e

  pub reason-2 : reason_of (cell16 f xs a) ≡ 2 → (is_finite x ≡ true) × (lt q nought ≡ true)
  reason-2 h = go (is_finite x) (lt q nought) refl refl (by-wall 1 h)
    where
      go : (s t : Bool) → is_finite x ≡ s → lt q nought ≡ t → reason_of (pick s (pick t Below Above) NotFinite) ≡ 2 → (is_finite x ≡ true) × (lt q nought ≡ true)
      go true true e d g = (e, d)
      go true false e d g = absurd (omega arith)
      go false t e d g = absurd (omega arith)

  pub reason-3 : reason_of (cell16 f xs a) ≡ 3 → (is_finite x ≡ true) × (lt q nought ≡ false)
  reason-3 h = go (is_finite x) (lt q nought) refl refl (by-wall 2 h)
    where
      go : (s t : Bool) → is_finite x ≡ s → lt q nought ≡ t → reason_of (pick s (pick t Below Above) NotFinite) ≡ 3 → (is_finite x ≡ true) × (lt q nought ≡ false)
      go true true e d g = absurd (omega arith)
      go true false e d g = (e, d)
      go false t e d g = absurd (omega arith)

  pub rubbish : is_finite x ≡ false → reason_of (cell16 f xs a) ≡ 1
  rubbish h = ap reason_of (cell-on f xs a l ∙ ap (λ y. cell_in 65536 y (wall_by x q)) (not_finite x (get_or f.displacement a nan) f.side h) ∙ sym (by-rubbish x q h))
