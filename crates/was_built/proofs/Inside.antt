-- Where the order column holds the points, no point is outside, and their codes are held.
use mathlib.Core.Path.{◌≡◌, sym, ap, ◌∙◌, subst}
use mathlib.Core.Bool.{true}
use mathlib.Core.List.{List}
use mathlib.Core.Logic.{◌⊎◌, inl, inr}
use Prim.Native.Nat.{ℕ, ◌*◌, ◌≤◌, ◌<◌}
use native.Mathlib.Omega.{arith}
use lib.Ieee.{Float}
use lib.ListN.{length, get_or, drop}
use Rattle.slices.specs.Lists.{sum}
use Rattle.slices.proofs.Tests.{clash, lt-or-le}
use Rattle.morton.specs.Keys.{axes_known, holds}
use Rattle.space.specs.declared.Box.{Box}
use Rattle.space.specs.Cells.{frame_of, inside}
use Rattle.space.specs.Rows.{rows_of, rows_inside}
use Rattle.space.proofs.Batches.{rows-le, row-outside, code-at-row, codes-length}
use Rattle.tree.specs.WellFormed.{well_formed}
use Rattle.laying.specs.Points.{codes_of}
use Rattle.points_right.specs.Points.{point_in, code_in, PointsRight}
use Rattle.points_right.proofs.Codes.{in-inside, inside-in, points-codes}
use Rattle.growth.specs.declared.Rule.{Rule}
use Rattle.growth.proofs.Arranged.{Codes}
use Rattle.further.specs.Points.{Beside, SourcesRight}
use Rattle.further.proofs.Held.{holding}
use Rattle.further.proofs.Columns.{order-run, order-has}
use Rattle.further.proofs.Ordered.{formed-tree, formed-beside, formed-distinct}

module _ (b : Box) (points : List Float) where
  abbrev n : ℕ
  n = rows_of b points

  abbrev s : List ℕ
  s = codes_of b points

  long : length s ≡ n
  long = codes-length n (frame_of b) points

  held-code : (k i : ℕ) → i < n → point_in (frame_of b) points k i ≡ true → code_in b.axes s k i ≡ true
  held-code k i l h =
      ap (holds b.axes k) (code-at-row n i (frame_of b) points l) ∙ sym (inside-in (frame_of b) points k i (in-inside (frame_of b) points k i h)) ∙ h

  pub by_codes : (keys own begin order : List ℕ) → PointsRight (rows_of b points) (point_in (frame_of b) points) keys own begin order → SourcesRight b.axes (codes_of b points) keys own begin order
  by_codes keys own begin order p = record {
    many = p.many ∙ sym long;
    whole = p.whole ∙ sym long;
    runs = λ j l. record {
      index = λ q x y. subst (λ (m : ℕ). get_or order q 0 < m) (sym long) ((p.runs j l).index q x y);
      inside = λ q x y. held-code (get_or keys j 0) (get_or order q 0) ((p.runs j l).index q x y) ((p.runs j l).inside q x y);
      rises = (p.runs j l).rises;
    };
  }

  -- and back, where all points are inside
  pub from-codes : (keys own begin order : List ℕ) → rows_inside b points ≡ rows_of b points → SourcesRight b.axes (codes_of b points) keys own begin order → PointsRight (rows_of b points) (point_in (frame_of b) points) keys own begin order
  from-codes keys own begin order all p =
      (points-codes b points all keys own begin order).1 (subst (λ (m : ℕ). PointsRight m (code_in b.axes s) keys own begin order) long p)

  module _ (g : Rule) (axes : g.axes ≡ b.axes) (keys own begin total order : List ℕ) (known : axes_known g.axes ≡ true) (codes : Codes g.axes (codes_of b points))
      (formed : well_formed g.axes keys own begin total ≡ true) (p : PointsRight (rows_of b points) (point_in (frame_of b) points) keys own begin order) where
    right : SourcesRight g.axes s keys own begin order
    right = subst (λ (d : ℕ). SourcesRight d s keys own begin order) (sym axes) (by_codes keys own begin order p)

    beside : Beside g.axes keys own begin
    beside = formed-beside g s keys own begin order known codes total formed

    whole : sum own ≡ length order
    whole = p.whole ∙ sym p.many

    -- each point stands in a run, and so in a cell
    each : (x : ℕ) → x < n → inside (frame_of b) (drop (x * b.axes) points) ≡ true
    each x l =
        let t = formed-tree g s keys own begin order known codes total formed in
        let dist = formed-distinct g s keys own begin order known codes total formed in
        let h = holding g.axes s keys own begin order beside.owns right in
        let (q, lq, e) = order-has g.axes s keys own begin order t dist beside whole h right.many x (omega (arith, l, long)) in
        let (j, r) = order-run g.axes s keys own begin order t dist beside whole h q lq in
        subst (λ (y : ℕ). inside (frame_of b) (drop (y * b.axes) points) ≡ true) e
        (in-inside (frame_of b) points (get_or keys j 0) (get_or order q 0) ((p.runs j (omega (arith, r.node, beside.owns))).inside q r.from r.to))

    pub all-inside : rows_inside b points ≡ rows_of b points
    all-inside = go (lt-or-le (rows_inside b points) n)
      where
        go : (rows_inside b points < n) ⊎ (n ≤ rows_inside b points) → rows_inside b points ≡ n
        go (inl l) = absurd (clash (each (rows_inside b points) l) (row-outside n (frame_of b) points l))
        go (inr l) = omega (arith, rows-le n (frame_of b) points)
