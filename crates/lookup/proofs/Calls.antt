-- The calls on a batch of points, check by check.
use mathlib.Core.Path.{◌≡◌, refl, sym, ap, ap₂, ◌∙◌}
use mathlib.Core.Bool.{Bool, true, false, ◌&&◌, not}
use mathlib.Core.List.{List, ◌++◌}
use Prim.Native.Nat.{ℕ, ◌-◌, ◌*◌, ◌/◌, ◌%◌, ◌≤◌, ◌<◌}
use native.Mathlib.Omega.{arith}
use lib.Dec.{leb, ltb, eqb}
use lib.Ieee.{Float}
use lib.ListN.{length, take, drop, replicate, length-append, length-drop, length-map}
use lib.Seq.{take_at, drop_at}
use borrow.Author.Tests.{eq-eqb, ne_eqb, eqb-true, le-leb, lt-leb, leb-true, ltb-false, ltb-true}
use Rattle.refusal.specs.declared.Refusal.{Refusal}
use Rattle.refusal.specs.declared.Refusal.TheVariants.{Shape, Count, Room, Tree, Point, Unstored}
use Rattle.refusal.specs.declared.Wall.{Wall}
use Rattle.refusal.specs.Chain.{ask, ◌then◌}
use Rattle.refusal.specs.Left.{left}
use Rattle.refusal.proofs.Chain.{never, asked, both-done, after-done, after-refused}
use Rattle.space.specs.declared.Box.{Box}
use Rattle.space.specs.declared.Frame.{Frame}
use Rattle.space.specs.Domain.{box_outcome}
use Rattle.space.specs.Cells.{frame_of}
use Rattle.space.specs.Rows.{inside_rows, or_inside, row_wall, first_outside, coded, rows_of, rows_inside, wall_of, most_points}
use Rattle.space.proofs.Walls.{wall-index}
use Rattle.space.proofs.Batches.{codes-length, rows-le}
use Rattle.space.proofs.Refusals.{Fine, fine}
use Rattle.morton.specs.Keys.{axes_known}
use Rattle.morton.proofs.Checks.{axes-known}
use Rattle.tree.specs.Columns.{columns}
use Rattle.tree.specs.WellFormed.{well_formed}
use Rattle.tree.specs.Finding.{TreeKeys}
use Rattle.lookup.proofs.TreeRule.{tree-keys, by-rule}
use Rattle.tree.specs.Leaves.{leaf_key}
use Rattle.lookup.specs.Batch.{held_before, leaf_keys, steps_sum, codes_inside, call_outcome, points_outcome, lookup_outcome}
use Rattle.lookup.specs.Work.{all_or, holders_of, inside_of, answer_of, shape_outcome, batch_outcome, rest_cleared}
use Rattle.std.specs.Prelude.{Err, Ok, Result}
use Rattle.space.specs.Inside.{Inside}
use Rattle.refusal.specs.Outcome.{Answer, Outcome, accepted}

-- ---- the answer of a batch
picked : (t u : Bool) (s h : ℕ) (w : Wall) → answer_of (all_or t s h) (or_inside u (Err w)) ≡ ask t (Unstored h) then ask (not u) (Point w) then Ok s
picked true true s h w = refl
picked true false s h w = refl
picked false true s h w = refl
picked false false s h w = refl

-- ---- the points of a call
first-inside : (n : ℕ) (f : Frame) (xs : List Float) → inside_of (first_outside n f xs) n ≡ inside_rows n f xs
first-inside n f xs = go (ltb (inside_rows n f xs) n) refl
  where
    go : (t : Bool) → ltb (inside_rows n f xs) n ≡ t → inside_of (or_inside t (Err (row_wall f xs (inside_rows n f xs)))) n ≡ inside_rows n f xs
    go true e = wall-index (inside_rows n f xs) f (drop (inside_rows n f xs * f.axes) xs)
    go false e = omega (arith, ltb-false (inside_rows n f xs) n e, rows-le n f xs)

module _ (b : Box) (keys : List ℕ) (xs : List Float) (old out : List ℕ) (rows : Inside) (first : ℕ)
    (r : rows ≡ first_outside (rows_of b xs) (frame_of b) xs) (w : out ≡ coded (rows_of b xs) (frame_of b) xs old) (e : first ≡ inside_of rows (rows_of b xs)) where
  first-is : first ≡ rows_inside b xs
  first-is = e ∙ ap (λ r. inside_of r (rows_of b xs)) r ∙ first-inside (rows_of b xs) (frame_of b) xs

  pub first-le : first ≤ rows_of b xs
  first-le = omega (arith, first-is, rows-le (rows_of b xs) (frame_of b) xs)

  size : length (codes_inside b xs) ≡ first
  size = codes-length (rows_inside b xs) (frame_of b) xs ∙ sym first-is

  pub codes_are : take first out ≡ codes_inside b xs
  codes_are = ap (take first) w ∙ take_at (codes_inside b xs) (drop (rows_inside b xs) old) first size

  rest_is : drop first out ≡ drop first old
  rest_is = ap (drop first) w ∙ drop_at (codes_inside b xs) (drop (rows_inside b xs) old) first size ∙ ap (λ (n : ℕ). drop n old) (sym first-is)

  pub codes-room : rows_of b xs ≤ length old → length out ≡ length old
  codes-room h = ap length w ∙ length-append (codes_inside b xs) (drop (rows_inside b xs) old) ∙ omega (arith, size, first-is, first-le, length-drop (rows_inside b xs) old)

  -- fewer rows inside than there are, or as many
  inside-all : not (ltb (rows_inside b xs) (rows_of b xs)) ≡ eqb (rows_inside b xs) (rows_of b xs)
  inside-all = go (ltb (rows_inside b xs) (rows_of b xs)) refl
    where
      go : (t : Bool) → ltb (rows_inside b xs) (rows_of b xs) ≡ t → not t ≡ eqb (rows_inside b xs) (rows_of b xs)
      go true l = sym (ne_eqb (rows_inside b xs) (rows_of b xs) (λ q. omega (arith, q, ltb-true (rows_inside b xs) (rows_of b xs) l)))
      go false l = sym (eq-eqb (rows_inside b xs) (rows_of b xs) (omega (arith, rows-le (rows_of b xs) (frame_of b) xs, ltb-false (rows_inside b xs) (rows_of b xs) l)))

  -- the answer
  pub look-answer : (holders : Result ℕ ℕ) → holders ≡ holders_of b.axes keys (take first out) → (result : Answer ℕ) → result ≡ answer_of holders rows
      → result ≡ points_outcome b keys xs then Ok (steps_sum b.axes keys (codes_inside b xs))
  unfolding points_outcome
  look-answer holders c result q =
      q
      ∙ ap₂ (λ (t : Result ℕ ℕ) (o : Inside). answer_of t o) (c ∙ ap (holders_of b.axes keys) codes_are) r
      ∙ picked (eqb (held_before b.axes keys (codes_inside b xs)) (length (codes_inside b xs))) (ltb (rows_inside b xs) (rows_of b xs)) (steps_sum b.axes keys (codes_inside b xs)) (held_before b.axes keys (codes_inside b xs)) (wall_of b xs)
      ∙ ap₂ (λ (l : ℕ) (u : Bool). ask (eqb (held_before b.axes keys (codes_inside b xs)) l) (Unstored (held_before b.axes keys (codes_inside b xs))) then ask u (Point (wall_of b xs)) then Ok (steps_sum b.axes keys (codes_inside b xs)))
      (size ∙ first-is) inside-all

  -- the output, where nothing is refused
  pub look-keys : (final : List ℕ) → (held_before b.axes keys (take first out) ≡ first → final ≡ leaf_keys b.axes keys (take first out) ++ drop first out)
      → points_outcome b keys xs ≡ accepted → final ≡ leaf_keys b.axes keys (codes_inside b xs) ++ drop (rows_of b xs) old
  unfolding points_outcome
  look-keys final h done =
      let p = both-done (ask (eqb (held_before b.axes keys (codes_inside b xs)) (rows_inside b xs)) _) (ask (eqb (rows_inside b xs) (rows_of b xs)) _) done in
      let all = eqb-true (held_before b.axes keys (codes_inside b xs)) (rows_inside b xs) (asked _ _ p.0) in
      let whole = eqb-true (rows_inside b xs) (rows_of b xs) (asked _ _ p.1) in
      h (ap (held_before b.axes keys) codes_are ∙ all ∙ sym first-is)
      ∙ ap₂ (λ (s t : List ℕ). leaf_keys b.axes keys s ++ t) codes_are (rest_is ∙ ap (λ (n : ℕ). drop n old) (first-is ∙ whole))

-- ---- the checks
module _ (b : Box) (n : ℕ) where
  pub box-refused : (r : Refusal) → box_outcome b ≡ Err r → Err r ≡ shape_outcome b n
  unfolding shape_outcome
  box-refused r e = rw e

  module _ (o : box_outcome b ≡ accepted) where
    pub no-shape : (n % b.axes ≡ 0 → ⊥) → Err Shape ≡ shape_outcome b n
    unfolding shape_outcome
    no-shape h = rw (o, ne_eqb (n % b.axes) 0 h)

    module _ (s : n % b.axes ≡ 0) where
      pub too_many : most_points < n / b.axes → Err Count ≡ shape_outcome b n
      unfolding shape_outcome
      too_many h = rw (o, eq-eqb (n % b.axes) 0 s, lt-leb (n / b.axes) most_points h)

      pub shaped : n / b.axes ≤ most_points → accepted ≡ shape_outcome b n
      unfolding shape_outcome
      shaped h = rw (o, eq-eqb (n % b.axes) 0 s, le-leb (n / b.axes) most_points h)

module _ (b : Box) (keys own begin total : List ℕ) (n room : ℕ) (o : Outcome) (q : o ≡ shape_outcome b n) where
  pub shape-refused : (r : Refusal) → o ≡ Err r → Err r ≡ batch_outcome b (columns keys own begin total) n room
  unfolding batch_outcome
  shape-refused r e = let f : shape_outcome b n ≡ Err r = sym q ∙ e in rw f

  module _ (d : o ≡ accepted) where
    done : shape_outcome b n ≡ accepted
    done = sym q ∙ d

    pub shape-fine : Fine b
    unfolding shape_outcome
    shape-fine =
        let third = both-done _ (ask (leb (n / b.axes) most_points) Count) done in
        fine b (both-done (box_outcome b) (ask (eqb (n % b.axes) 0) Shape) third.0).0

    module _ (w : Bool) (e : w ≡ (axes_known b.axes && well_formed b.axes keys own begin total)) where
      rule : well_formed b.axes keys own begin total ≡ w
      rule = by-rule b.axes keys own begin total (axes-known b.axes shape-fine.least shape-fine.most) _ refl ∙ sym e

      pub not-tree : w ≡ false → Err Tree ≡ batch_outcome b (columns keys own begin total) n room
      unfolding batch_outcome
      not-tree f = let t : well_formed b.axes keys own begin total ≡ false = rule ∙ f in rw (done, t)

      module _ (f : w ≡ true) where
        pub short : room < n / b.axes → Err (Room 8) ≡ batch_outcome b (columns keys own begin total) n room
        unfolding batch_outcome
        short h = let t : well_formed b.axes keys own begin total ≡ true = rule ∙ f in rw (done, t, lt-leb (n / b.axes) room h)

        pub called : n / b.axes ≤ room → accepted ≡ batch_outcome b (columns keys own begin total) n room
        unfolding batch_outcome
        called h = let t : well_formed b.axes keys own begin total ≡ true = rule ∙ f in rw (done, t, le-leb (n / b.axes) room h)

module _ (b : Box) (keys own begin total : List ℕ) (xs : List Float) (room : ℕ) where
  pub record Called : Type 0 where
    pub box : Fine b
    pub few : rows_of b xs ≤ most_points
    pub tree : TreeKeys b.axes keys
    pub fits : rows_of b xs ≤ room

  pub checked : call_outcome b (columns keys own begin total) xs room ≡ accepted → Called
  unfolding call_outcome
  checked h =
      let fifth = both-done _ (ask (leb (rows_of b xs) room) (Room 8)) h in
      let fourth = both-done _ (ask (well_formed b.axes keys own begin total) Tree) fifth.0 in
      let third = both-done _ (ask (leb (rows_of b xs) most_points) Count) fourth.0 in
      let second = both-done (box_outcome b) (ask (eqb (length xs % b.axes) 0) Shape) third.0 in
      let t = asked (well_formed b.axes keys own begin total) Tree fourth.1 in
      let box = fine b second.0 in
      record {
        box = box;
        few = leb-true (rows_of b xs) most_points (asked _ Count third.1);
        tree = tree-keys b.axes keys own begin total (axes-known b.axes box.least box.most) t;
        fits = leb-true (rows_of b xs) room (asked _ (Room 8) fifth.1);
      }

-- ---- the answer and the output of a call
pub found-is : (o : Outcome) (s steps : ℕ) → o then Ok s ≡ Ok steps → (o ≡ accepted) × (steps ≡ s)
found-is (Ok tt) s steps e = (refl, (cc))
found-is (Err r) s steps e = let z : ◌≡◌ {A = ℕ} 0 1 = cc in absurd (omega arith)

module _ (b : Box) (keys own begin total : List ℕ) (xs : List Float) (room : ℕ) where
  abbrev answer : ℕ
  answer = steps_sum b.axes keys (codes_inside b xs)

  abbrev output : List ℕ
  output = leaf_keys b.axes keys (codes_inside b xs)

  module _ (o : Outcome) (q : o ≡ batch_outcome b (columns keys own begin total) (length xs) room) where
    by-numbers : o ≡ call_outcome b (columns keys own begin total) xs room
    unfolding call_outcome batch_outcome shape_outcome
    by-numbers = q

    -- refused by a check
    module _ (r : Refusal) (e : o ≡ Err r) where
      early : lookup_outcome b (columns keys own begin total) xs room ≡ Err r
      early = after-refused (call_outcome b (columns keys own begin total) xs room) (points_outcome b keys xs) r (sym by-numbers ∙ e)

      pub early-answer : Err r ≡ lookup_outcome b (columns keys own begin total) xs room then Ok answer
      early-answer = sym (ap (λ (o : Outcome). o then Ok answer) early)

      pub early-ends : lookup_outcome b (columns keys own begin total) xs room ≡ accepted → ⊥
      early-ends d = never r (sym early ∙ d)

    -- checked
    module _ (d : o ≡ accepted) where
      pub call-checked : Called b keys own begin total xs room
      call-checked = checked b keys own begin total xs room (sym by-numbers ∙ d)

      by-points : lookup_outcome b (columns keys own begin total) xs room ≡ points_outcome b keys xs
      by-points = after-done (call_outcome b (columns keys own begin total) xs room) (points_outcome b keys xs) (sym by-numbers ∙ d)

      pub looked-answer : (result : Answer ℕ) → result ≡ points_outcome b keys xs then Ok answer → result ≡ lookup_outcome b (columns keys own begin total) xs room then Ok answer
      looked-answer result e = e ∙ sym (ap (λ (o : Outcome). o then Ok answer) by-points)

      pub looked-points : lookup_outcome b (columns keys own begin total) xs room ≡ accepted → points_outcome b keys xs ≡ accepted
      looked-points e = sym by-points ∙ e

  -- the output
  module _ (result : Answer ℕ) (q : result ≡ lookup_outcome b (columns keys own begin total) xs room then Ok answer) where
    pub found-axes : (steps : ℕ) → result ≡ Ok steps → 1 ≤ b.axes
    found-axes steps e =
        let done = (found-is (lookup_outcome b (columns keys own begin total) xs room) answer steps (sym q ∙ e)).0 in
        (checked b keys own begin total xs room (both-done (call_outcome b (columns keys own begin total) xs room) (points_outcome b keys xs) done).0).box.least

    module _ (d : lookup_outcome b (columns keys own begin total) xs room ≡ accepted) where
      all-inside : rows_inside b xs ≡ rows_of b xs
      unfolding points_outcome
      all-inside =
          let f = (both-done (call_outcome b (columns keys own begin total) xs room) (points_outcome b keys xs) d).1 in
          let p = both-done (ask (eqb (held_before b.axes keys (codes_inside b xs)) (rows_inside b xs)) (Unstored (held_before b.axes keys (codes_inside b xs)))) (ask (eqb (rows_inside b xs) (rows_of b xs)) (Point (wall_of b xs))) f in
          eqb-true (rows_inside b xs) (rows_of b xs) (asked (eqb (rows_inside b xs) (rows_of b xs)) (Point (wall_of b xs)) p.1)

      size_is : length output ≡ rows_of b xs
      size_is = length-map (codes_inside b xs) (leaf_key b.axes keys) ∙ codes-length (rows_inside b xs) (frame_of b) xs ∙ all-inside

      filled_is : (old mid : List ℕ) → length mid ≡ room → mid ≡ output ++ drop (rows_of b xs) old → take (rows_of b xs) mid ++ replicate (length mid - rows_of b xs) 0 ≡ left accepted room output
      filled_is old mid l m =
          ap₂ (λ (s : List ℕ) (n : ℕ). s ++ replicate n 0)
          (ap (take (rows_of b xs)) m ∙ take_at output (drop (rows_of b xs) old) (rows_of b xs) size_is)
          (ap₂ ◌-◌ l (sym size_is))

    pub output-left : (old mid final : List ℕ) → length mid ≡ room → (lookup_outcome b (columns keys own begin total) xs room ≡ accepted → mid ≡ output ++ drop (rows_of b xs) old)
        → final ≡ rest_cleared result (rows_of b xs) mid → final ≡ left (lookup_outcome b (columns keys own begin total) xs room) room output
    output-left old mid final l m z = go (lookup_outcome b (columns keys own begin total) xs room) refl
      where
        told : (o : Outcome) → lookup_outcome b (columns keys own begin total) xs room ≡ o → final ≡ rest_cleared (o then Ok answer) (rows_of b xs) mid
        told o e = z ∙ ap (λ (t : Answer ℕ). rest_cleared t (rows_of b xs) mid) (q ∙ ap (λ (o : Outcome). o then Ok answer) e)

        go : (o : Outcome) → lookup_outcome b (columns keys own begin total) xs room ≡ o → final ≡ left (lookup_outcome b (columns keys own begin total) xs room) room output
        go (Ok tt) e = told accepted e ∙ filled_is e old mid l (m e) ∙ sym (ap (λ o. left o room output) e)
        go (Err r) e = told (Err r) e ∙ ap (λ (n : ℕ). replicate n 0) l ∙ sym (ap (λ o. left o room output) e)
