-- Points by their codes.
use mathlib.Core.Path.{◌≡◌, refl, sym, ap, ◌∙◌, subst}
use mathlib.Core.Bool.{Bool, true, false}
use mathlib.Core.List.{List}
use mathlib.Core.Logic.{◌↔◌}
use Prim.Native.Nat.{ℕ, ◌+◌, ◌*◌, ◌-◌, ◌<◌}
use lib.Ieee.{Float}
use lib.ListN.{get_or, drop}
use lib.Dec.{eqb}
use Rattle.morton.specs.Keys.{deepest, level_of, code_of, above, holds}
use Rattle.space.specs.declared.Box.{Box}
use Rattle.space.specs.declared.Frame.{Frame}
use Rattle.space.specs.Cells.{frame_of, inside, code16, kept, point_code}
use Rattle.space.specs.Rows.{rows_of, rows_inside, codes16}
use Rattle.space.proofs.Batches.{code-at-row, row_inside}
use Rattle.points_right.specs.Points.{held_code, point_in, code_in, RunRight, PointsRight}
use Rattle.std.specs.Prelude.{None, Some}

-- a cell holds a point's code, or the point is outside
module _ (f : Frame) (points : List Float) (k i : ℕ) where
  pub in-none : point_code f (drop (i * f.axes) points) ≡ None → false ≡ point_in f points k i
  unfolding point_in
  in-none e = sym (ap (held_code f.axes k) e)

  pub in_code : (code : ℕ) → point_code f (drop (i * f.axes) points) ≡ Some code → eqb (above f.axes (deepest - level_of k) code) (code_of k) ≡ point_in f points k i
  unfolding point_in
  in_code code e = sym (ap (held_code f.axes k) e)

  pub in-inside : point_in f points k i ≡ true → inside f (drop (i * f.axes) points) ≡ true
  unfolding point_in
  in-inside h = go (inside f (drop (i * f.axes) points)) h
    where
      go : (b : Bool) → held_code f.axes k (kept b (code16 f (drop (i * f.axes) points))) ≡ true → b ≡ true
      go true e = refl
      go false e = e

  pub inside-in : inside f (drop (i * f.axes) points) ≡ true → point_in f points k i ≡ holds f.axes k (code16 f (drop (i * f.axes) points))
  unfolding point_in
  inside-in e = ap (λ (b : Bool). held_code f.axes k (kept b (code16 f (drop (i * f.axes) points)))) e

-- the same runs are right by two tests that agree on the points
module _ (n : ℕ) (held other : ℕ → ℕ → Bool) (same : (k i : ℕ) → i < n → held k i ≡ other k i) where
  run_by : (order : List ℕ) (k from to : ℕ) → RunRight n held order k from to → RunRight n other order k from to
  run_by order k from to r = record {
    index = r.index;
    inside = λ p a b. sym (same k (get_or order p 0) (r.index p a b)) ∙ r.inside p a b;
    rises = r.rises;
  }

  pub right_by : (keys own begin order : List ℕ) → PointsRight n held keys own begin order → PointsRight n other keys own begin order
  right_by keys own begin order p = record {
    many = p.many;
    whole = p.whole;
    runs = λ j l. run_by order (get_or keys j 0) (get_or begin j 0) (get_or begin j 0 + get_or own j 0) (p.runs j l);
  }

-- where all points are inside, they go by their codes
module _ (b : Box) (points : List Float) (all : rows_inside b points ≡ rows_of b points) where
  by_code : (k i : ℕ) → i < rows_of b points → point_in (frame_of b) points k i ≡ code_in b.axes (codes16 (rows_of b points) (frame_of b) points) k i
  by_code k i l =
      inside-in (frame_of b) points k i (row_inside (rows_of b points) i (frame_of b) points (subst (λ (x : ℕ). i < x) (sym all) l))
      ∙ ap (holds b.axes k) (sym (code-at-row (rows_of b points) i (frame_of b) points l))

  pub points-codes : (keys own begin order : List ℕ) → PointsRight (rows_of b points) (point_in (frame_of b) points) keys own begin order
      ↔ PointsRight (rows_of b points) (code_in b.axes (codes16 (rows_of b points) (frame_of b) points)) keys own begin order
  points-codes keys own begin order = (
    right_by (rows_of b points) (point_in (frame_of b) points) (code_in b.axes (codes16 (rows_of b points) (frame_of b) points)) by_code keys own begin order,
    right_by (rows_of b points) (code_in b.axes (codes16 (rows_of b points) (frame_of b) points)) (point_in (frame_of b) points) (λ k i l. sym (by_code k i l)) keys own begin order,
  )
