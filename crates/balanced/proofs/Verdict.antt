-- The refusals of the call, one test after the other.
use mathlib.Core.Path.{◌≡◌, refl, sym, ap, ◌∙◌, subst}
use mathlib.Core.Bool.{Bool, true, false, ◌&&◌}
use mathlib.Core.List.{List}
use Prim.Native.Nat.{ℕ, ◌+◌, ◌/◌, ◌%◌, ◌≤◌, ◌<◌, min}
use native.Mathlib.Omega.{arith}
use lib.Dec.{leb, eqb}
use lib.Ieee.{Float}
use lib.ListN.{length, take}
use borrow.Author.Tests.{leb-true, le-leb, lt-leb, eqb-true, eq-eqb, ne_eqb}
use Rattle.refusal.specs.declared.Refusal.{Refusal}
use Rattle.refusal.specs.declared.Refusal.TheVariants.{Shape, Count, Tree, Partial, Source, NotBuilt, Room}
use Rattle.refusal.specs.Chain.{ask, ◌then◌}
use Rattle.refusal.proofs.Chain.{asked, both-done, after-done, after-refused, never}
use Rattle.refusal.specs.declared.Wall.{Wall}
use Rattle.slices.proofs.Tests.{and_r, clash}
use Rattle.morton.specs.Keys.{axes_known}
use Rattle.space.specs.declared.Box.{Box}
use Rattle.space.specs.Domain.{box_outcome}
use Rattle.space.specs.Cells.{frame_of}
use Rattle.space.specs.Rows.{rows_of, rows_inside, wall_of, first_outside, most_points}
use Rattle.space.proofs.Batches.{one_outside, all-inside}
use Rattle.laying.specs.Points.{codes_of}
use Rattle.lookup.specs.Work.{shape_outcome}
use Rattle.space.proofs.Refusals.{Fine, fine}
use Rattle.morton.proofs.Checks.{axes-known}
use Rattle.lookup.proofs.TreeRule as R
use Rattle.tree.specs.Columns.{columns}
use Rattle.tree.specs.Finding.{TreeKeys}
use Rattle.tree.specs.WellFormed.{well_formed}
use Rattle.sums.specs.Tells.{Tells}
use Rattle.full.specs.Full.{Full}
use Rattle.points_right.specs.Points.{point_in, PointsRight}
use Rattle.balanced.specs.Given.{is_full, is_given}
use Rattle.laying.proofs.Inside.{walled}
use Rattle.balanced.specs.Outcomes.{given_check}
use Rattle.balanced.proofs.Tests.{tells-test, full-test, test-full, points-given}
use Rattle.refusal.specs.Outcome.{Outcome, accepted}
use Rattle.std.specs.Prelude.{Err, Ok}
use Rattle.space.specs.Inside.{Inside, all_inside}

pub shape-fine : (b : Box) (n : ℕ) → shape_outcome b n ≡ accepted → Fine b × (n / b.axes ≤ most_points)
unfolding shape_outcome
shape-fine b n e =
    let third = both-done _ (ask (leb (n / b.axes) most_points) Count) e in
    (fine b (both-done (box_outcome b) (ask (eqb (n % b.axes) 0) Shape) third.0).0, leb-true (n / b.axes) most_points (asked (leb (n / b.axes) most_points) Count third.1))

module _ (b : Box) (points : List Float) (keys own begin total order : List ℕ) (o : Outcome) (q : o ≡ shape_outcome b (length points)) where
  pub shape-refused : (r : Refusal) → o ≡ Err r → Err r ≡ given_check b points (columns keys own begin total) order
  unfolding given_check
  shape-refused r e = let f : shape_outcome b (length points) ≡ Err r = sym q ∙ e in rw f

  module _ (dn : o ≡ accepted) where
    shaped : shape_outcome b (length points) ≡ accepted
    shaped = sym q ∙ dn

    pub box-fine : Fine b
    box-fine = (shape-fine b (length points) shaped).0

    pub known : axes_known b.axes ≡ true
    known = axes-known b.axes box-fine.least box-fine.most

    module _ (w : Bool) (e : w ≡ (axes_known b.axes && well_formed b.axes keys own begin total)) where
      rule : well_formed b.axes keys own begin total ≡ w
      rule = R.by-rule b.axes keys own begin total known _ refl ∙ sym e

      pub not-tree : w ≡ false → Err Tree ≡ given_check b points (columns keys own begin total) order
      unfolding given_check
      not-tree f = let t : well_formed b.axes keys own begin total ≡ false = rule ∙ f in rw (shaped, t)

      module _ (f : w ≡ true) where
        pub formed : well_formed b.axes keys own begin total ≡ true
        formed = rule ∙ f

        pub keys_are : TreeKeys b.axes keys
        keys_are = R.tree-keys b.axes keys own begin total known formed

        module _ (u : Bool) (h : Tells (Full b.axes keys) u) where
          full : u ≡ is_full b.axes keys
          full = tells-test u (is_full b.axes keys) h (full-test b.axes keys) (test-full b.axes keys)

          pub partial : u ≡ false → Err Partial ≡ given_check b points (columns keys own begin total) order
          unfolding given_check
          partial g = let t : is_full b.axes keys ≡ false = sym full ∙ g in rw (shaped, formed, t)

          module _ (g : u ≡ true) where
            outside-wall : (wall : Wall) → first_outside (rows_of b points) (frame_of b) points ≡ Err wall → Err (Source wall) ≡ given_check b points (columns keys own begin total) order
            unfolding given_check
            outside-wall wall i =
                let t : is_full b.axes keys ≡ true = sym full ∙ g in
                let p = one_outside (rows_of b points) wall (frame_of b) points i in
                rw (shaped, formed, t, ne_eqb (rows_inside b points) (rows_of b points) (λ z. omega (arith, p.1, z)), p.0)

            pub outside : (r : Refusal) → walled Source (first_outside (rows_of b points) (frame_of b) points) ≡ Err r → Err r ≡ given_check b points (columns keys own begin total) order
            outside r e = go (first_outside (rows_of b points) (frame_of b) points) refl e
              where
                go : (i : Inside) → first_outside (rows_of b points) (frame_of b) points ≡ i → walled Source i ≡ Err r → Err r ≡ given_check b points (columns keys own begin total) order
                go (Err w) i e = sym e ∙ outside-wall w i
                go (Ok x) i e = absurd (never r (sym e))

            module _ (i : first_outside (rows_of b points) (frame_of b) points ≡ all_inside) (v : Bool) (p : Tells (PointsRight (rows_of b points) (point_in (frame_of b) points) keys own begin order) v) where
              all : rows_inside b points ≡ rows_of b points
              all = all-inside (rows_of b points) (frame_of b) points i

              given : v ≡ is_given b.axes keys own order (codes_of b points)
              given = points-given b points keys own begin total order keys_are formed all v p

              verdict : (x : Bool) → is_given b.axes keys own order (codes_of b points) ≡ x → ask x NotBuilt ≡ given_check b points (columns keys own begin total) order
              unfolding given_check
              verdict x e =
                  let t : is_full b.axes keys ≡ true = sym full ∙ g in
                  rw (shaped, formed, t, eq-eqb (rows_inside b points) (rows_of b points) all, e)

              pub not-given : v ≡ false → Err NotBuilt ≡ given_check b points (columns keys own begin total) order
              not-given z = verdict false (sym given ∙ z)

              pub all-given : v ≡ true → accepted ≡ given_check b points (columns keys own begin total) order
              all-given z = verdict true (sym given ∙ z)

-- what is known where nothing is refused
pub record Passed (b : Box) (points : List Float) (keys own begin total order : List ℕ) : Type 0 where
  pub box : Fine b
  pub few : rows_of b points ≤ most_points
  pub formed : well_formed b.axes keys own begin total ≡ true
  pub tree : TreeKeys b.axes keys
  pub full : Full b.axes keys
  pub inside : rows_inside b points ≡ rows_of b points
  pub given : is_given b.axes keys own order (codes_of b points) ≡ true

pub passed : (b : Box) (points : List Float) (keys own begin total order : List ℕ) → given_check b points (columns keys own begin total) order ≡ accepted → Passed b points keys own begin total order
unfolding given_check
passed b points keys own begin total order e =
    let p4 = both-done _ (ask (is_given b.axes keys own order (codes_of b points)) NotBuilt) e in
    let p3 = both-done _ (ask (eqb (rows_inside b points) (rows_of b points)) (Source (wall_of b points))) p4.0 in
    let p2 = both-done _ (ask (is_full b.axes keys) Partial) p3.0 in
    let p1 = both-done (shape_outcome b (length points)) (ask (well_formed b.axes keys own begin total) Tree) p2.0 in
    let f = shape-fine b (length points) p1.0 in
    let formed = asked (well_formed b.axes keys own begin total) Tree p1.1 in
    record {
      box = f.0;
      few = f.1;
      formed = formed;
      tree = R.tree-keys b.axes keys own begin total (axes-known b.axes f.0.least f.0.most) formed;
      full = test-full b.axes keys (asked (is_full b.axes keys) Partial p2.1);
      inside = eqb-true (rows_inside b points) (rows_of b points) (asked (eqb (rows_inside b points) (rows_of b points)) (Source (wall_of b points)) p3.1);
      given = asked (is_given b.axes keys own order (codes_of b points)) NotBuilt p4.1;
    }
