-- The cells of a coordinate nest: its anchor at a level is its level-16 anchor divided by 2 ^ (16 - level).
use mathlib.Core.Path.{◌≡◌, refl, sym, ap, ◌∙◌, subst}
use mathlib.Core.Bool.{Bool, true, false, ◌&&◌, true≢false}
use mathlib.Core.List.{List}
use Prim.Native.Nat.{ℕ, zero, suc, ◌+◌, ◌-◌, ◌*◌, ◌/◌, ◌^◌, ◌≤◌, ◌<◌}
use native.Mathlib.Nat.{zero-div}
use native.Mathlib.Omega.{arith}
use lib.Ieee.{Float, nan, binary64, fits}
use Rattle.space.specs.Floats.{is_finite}
use lib.ListN.{get_or, get_or-map}
use lib.Pow.{high}
use Rattle.slices.proofs.Tests.{and_l, and_r}
use Rattle.codes.proofs.Codes.{encode-split, encode-lt}
use Rattle.morton.specs.Anchors.{encode}
use Rattle.space.specs.declared.Box.{Box}
use Rattle.space.specs.declared.Frame.{Frame}
use Rattle.space.specs.declared.Place.{Place}
use Rattle.space.specs.declared.Place.TheVariants.{At, NotFinite, Below, Above}
use Rattle.space.specs.Domain.{radius_known}
use Rattle.space.specs.Cells.{displacement, frame_of, quotient, wall_by, cell_in, cell16, is_at, place_number, inside, anchors16, point_anchors, code16, level_cell, Nests}
use Rattle.points.proofs.Sides.{radius, cells-nest, no_cell}
use Rattle.space.proofs.Points.{cell-on}
use Rattle.space.proofs.Walls.{not_finite}

-- for every box of the domain, every axis and every coordinate
module _ (b : Box) (held : fits binary64 b.radius ≡ true) (known : radius_known b.radius ≡ true) where
  pub cell-nests : (level a k : ℕ) (x : Float) → level ≤ 16 → level_cell b 16 a x ≡ At k → level_cell b level a x ≡ At (k / 2 ^ (16 - level))
  cell-nests level a k x l h = cells-nest b.radius x (displacement b a) level k (radius b.radius held known) l h

pub is-at : (p : Place) → is_at p ≡ true → p ≡ At (place_number p)
is-at (At k) h = refl
is-at NotFinite h = absurd (true≢false (sym h))
is-at Below h = absurd (true≢false (sym h))
is-at Above h = absurd (true≢false (sym h))

-- the axes of a point that is inside
pub inside-0 : (f : Frame) (xs : List Float) → inside f xs ≡ true → cell16 f xs 0 ≡ At (place_number (cell16 f xs 0))
unfolding inside
inside-0 f xs h = is-at (cell16 f xs 0) (and_l (is_at (cell16 f xs 0)) (is_at (cell16 f xs 1) && is_at (cell16 f xs 2)) h)

pub inside-1 : (f : Frame) (xs : List Float) → inside f xs ≡ true → cell16 f xs 1 ≡ At (place_number (cell16 f xs 1))
unfolding inside
inside-1 f xs h = is-at (cell16 f xs 1) (and_l (is_at (cell16 f xs 1)) (is_at (cell16 f xs 2)) (and_r (is_at (cell16 f xs 0)) (is_at (cell16 f xs 1) && is_at (cell16 f xs 2)) h))

pub inside-2 : (f : Frame) (xs : List Float) → inside f xs ≡ true → cell16 f xs 2 ≡ At (place_number (cell16 f xs 2))
unfolding inside
inside-2 f xs h = is-at (cell16 f xs 2) (and_r (is_at (cell16 f xs 1)) (is_at (cell16 f xs 2)) (and_r (is_at (cell16 f xs 0)) (is_at (cell16 f xs 1) && is_at (cell16 f xs 2)) h))

-- a point that is inside has a finite coordinate on each of its axes
finite-at : (f : Frame) (xs : List Float) (a : ℕ) → a < f.axes → cell16 f xs a ≡ At (place_number (cell16 f xs a)) → is_finite (get_or xs a nan) ≡ true
finite-at f xs a n h = go (is_finite (get_or xs a nan)) refl
  where
    go : (t : Bool) → is_finite (get_or xs a nan) ≡ t → is_finite (get_or xs a nan) ≡ true
    go true e = e
    go false e =
        let x = get_or xs a nan in
        let q = quotient x (get_or f.displacement a nan) f.side in
        let out : cell16 f xs a ≡ wall_by x q =
        cell-on f xs a n ∙ ap (λ y. cell_in 65536 y (wall_by x q)) (not_finite x (get_or f.displacement a nan) f.side e) in
        absurd (true≢false (sym (ap is_at h) ∙ ap is_at out ∙ no_cell x q))

pub inside-finite : (f : Frame) (xs : List Float) (a : ℕ) → f.axes ≤ 3 → inside f xs ≡ true → a < f.axes → is_finite (get_or xs a nan) ≡ true
inside-finite f xs zero most h n = finite-at f xs 0 n (inside-0 f xs h)
inside-finite f xs (suc zero) most h n = finite-at f xs 1 n (inside-1 f xs h)
inside-finite f xs (suc (suc zero)) most h n = finite-at f xs 2 n (inside-2 f xs h)
inside-finite f xs (suc (suc (suc a))) most h n = absurd (omega arith)

pub nests : (b : Box) (xs : List Float) (level : ℕ) → fits binary64 b.radius ≡ true → radius_known b.radius ≡ true → b.axes ≤ 3 → level ≤ 16
    → inside (frame_of b) xs ≡ true → Nests b xs level (point_anchors (frame_of b) xs level)
unfolding anchors16
nests b xs level held known most l h zero n =
    cell-nests b held known level 0 _ (get_or xs 0 nan) l (sym (cell-on (frame_of b) xs 0 n) ∙ inside-0 (frame_of b) xs h)
nests b xs level held known most l h (suc zero) n =
    cell-nests b held known level 1 _ (get_or xs 1 nan) l (sym (cell-on (frame_of b) xs 1 n) ∙ inside-1 (frame_of b) xs h)
nests b xs level held known most l h (suc (suc zero)) n =
    cell-nests b held known level 2 _ (get_or xs 2 nan) l (sym (cell-on (frame_of b) xs 2 n) ∙ inside-2 (frame_of b) xs h)
nests b xs level held known most l h (suc (suc (suc a))) n = absurd (omega arith)

-- a point's code at a level is its level-16 code divided by 2 ^ (axes * (16 - level))
pub code-above : (f : Frame) (xs : List Float) (level : ℕ) → level ≤ 16 → code16 f xs / 2 ^ (f.axes * (16 - level)) ≡ encode f.axes f.axes level (point_anchors f xs level)
unfolding code16
code-above f xs level l =
    let d = f.axes in
    let up = 16 - level in
    let e : 16 ≡ up + level = omega arith in
    let halved : (a : ℕ) → get_or (point_anchors f xs level) a 0 ≡ get_or (anchors16 f xs) a 0 / 2 ^ up =
    λ a. ap (get_or (point_anchors f xs level) a) (sym (zero-div (2 ^ up))) ∙ get_or-map (λ k. k / 2 ^ up) (anchors16 f xs) a 0 in
    ap (λ n. n / 2 ^ (d * up)) (ap (λ n. encode d d n (anchors16 f xs)) e ∙ encode-split d d up level (anchors16 f xs) (point_anchors f xs level) (λ a h. halved a))
    ∙ high (encode d d level (point_anchors f xs level)) (d * up) (encode-lt d up (anchors16 f xs))

pub code-under : (f : Frame) (xs : List Float) → code16 f xs < 2 ^ (f.axes * 16)
unfolding code16
code-under f xs = encode-lt f.axes 16 (anchors16 f xs)
