-- The refusals before the room is asked, one by one as they are asked, and what is known where none refuses.
use mathlib.Core.Path.{◌≡◌, sym, ap, ◌∙◌}
use mathlib.Core.Bool.{Bool, true, false, ◌&&◌}
use mathlib.Core.List.{List}
use Prim.Native.Nat.{ℕ, ◌%◌, ◌≤◌, ◌<◌}
use lib.Dec.{ltb, eqb}
use lib.Ieee.{Float}
use lib.ListN.{length}
use borrow.Author.Tests.{eq-eqb, ne_eqb, eqb-true, lt-ltb, le-ltb, ltb-true}
use Rattle.refusal.specs.declared.Refusal.{Refusal}
use Rattle.refusal.specs.declared.Refusal.TheVariants.{Shape, Count, Source, Tree, NotBuilt}
use Rattle.refusal.specs.declared.Wall.{Wall}
use Rattle.refusal.specs.Chain.{ask, ◌then◌}
use Rattle.refusal.proofs.Chain.{asked, both-done}
use Rattle.slices.proofs.Tests.{and_l, and_r}
use Rattle.morton.specs.Keys.{axes_known}
use Rattle.space.specs.declared.Box.{Box}
use Rattle.space.specs.declared.Frame.{Frame}
use Rattle.space.specs.Domain.{box_outcome}
use Rattle.space.specs.Cells.{frame_of, inside}
use Rattle.space.specs.Rows.{most_points, rows_of, rows_inside}
use Rattle.space.specs.Walls.{first_wall}
use Rattle.tree.specs.WellFormed.{well_formed}
use Rattle.was_built.specs.Build.{asks_alone, is_build}
use Rattle.was_built.proofs.Judged.{Are, are}
use Rattle.one_more.specs.More.{More, judged}
use Rattle.one_more.specs.Steps.{Sound}
use Rattle.std.specs.Prelude.{Err}
use Rattle.refusal.specs.Outcome.{Outcome, accepted}

module _ (q : More) where
  abbrev formed : Bool
  formed = well_formed q.box.axes q.tree.keys q.tree.own q.tree.begin q.tree.total

  abbrev built : Bool
  built = is_build q.box q.limit q.keep q.sources q.tree q.order

  abbrev within : Bool
  within = inside (frame_of q.box) q.point

  pub box-refused : (r : Refusal) → box_outcome q.box ≡ Err r → Err r ≡ judged q
  unfolding judged
  box-refused r e = rw e

  module _ (o : box_outcome q.box ≡ accepted) where
    pub ragged : (length q.sources % q.box.axes ≡ 0 → ⊥) → Err Shape ≡ judged q
    unfolding judged
    ragged h = rw (o, ne_eqb (length q.sources % q.box.axes) 0 h)

    module _ (whole : length q.sources % q.box.axes ≡ 0) where
      pub many : most_points ≤ rows_of q.box q.sources → Err Count ≡ judged q
      unfolding judged
      many h = rw (o, eq-eqb (length q.sources % q.box.axes) 0 whole, le-ltb (rows_of q.box q.sources) most_points h)

      module _ (few : rows_of q.box q.sources < most_points) where
        pub not-formed : well_formed q.box.axes q.tree.keys q.tree.own q.tree.begin q.tree.total ≡ false → Err Tree ≡ judged q
        unfolding judged
        not-formed e = rw (o, eq-eqb (length q.sources % q.box.axes) 0 whole, lt-ltb (rows_of q.box q.sources) most_points few, e)

        module _ (tree : well_formed q.box.axes q.tree.keys q.tree.own q.tree.begin q.tree.total ≡ true) where
          pub not-built : is_build q.box q.limit q.keep q.sources q.tree q.order ≡ false → Err NotBuilt ≡ judged q
          unfolding judged
          not-built e = rw (o, eq-eqb (length q.sources % q.box.axes) 0 whole, lt-ltb (rows_of q.box q.sources) most_points few, tree, e)

          module _ (is : is_build q.box q.limit q.keep q.sources q.tree q.order ≡ true) where
            pub by-point : ask (inside (frame_of q.box) q.point) (Source (first_wall (rows_of q.box q.sources) (frame_of q.box) q.point)) ≡ judged q
            unfolding judged
            by-point = rw (o, eq-eqb (length q.sources % q.box.axes) 0 whole, lt-ltb (rows_of q.box q.sources) most_points few, tree, is)

  pub sound : judged q ≡ accepted → length q.point ≡ 3 → Sound q.box q.sources q.point
  unfolding judged is_build
  sound h long =
      let wall = Source (first_wall (rows_of q.box q.sources) (frame_of q.box) q.point) in
      let sixth = both-done _ (ask within wall) h in
      let fifth = both-done _ (ask built NotBuilt) sixth.0 in
      let fourth = both-done _ (ask formed Tree) fifth.0 in
      let third = both-done _ (ask (ltb (rows_of q.box q.sources) most_points) Count) fourth.0 in
      let second = both-done (box_outcome q.box) (ask (eqb (length q.sources % q.box.axes) 0) Shape) third.0 in
      record {
        box = second.0;
        whole = eqb-true (length q.sources % q.box.axes) 0 (asked (eqb (length q.sources % q.box.axes) 0) Shape second.1);
        few = ltb-true (rows_of q.box q.sources) most_points (asked (ltb (rows_of q.box q.sources) most_points) Count third.1);
        insides = eqb-true (rows_inside q.box q.sources) (rows_of q.box q.sources) (and_l _ _ (asked built NotBuilt fifth.1));
        long = long;
        point_inside = asked within wall sixth.1;
      }

  -- what is asked before the tree is judged to be a build
  abbrev first : Outcome
  first =
      box_outcome q.box
      then ask (eqb (length q.sources % q.box.axes) 0) Shape
      then ask (ltb (rows_of q.box q.sources) most_points) Count
      then ask formed Tree

  -- the tree handed in is the build of the former sources
  pub handed-in : judged q ≡ accepted → Are (asks_alone q.box q.limit q.keep q.sources) q.tree q.order
  unfolding judged is_build
  handed-in h =
      let all = both-done (first then ask built NotBuilt) (ask within (Source (first_wall (rows_of q.box q.sources) (frame_of q.box) q.point))) h in
      let is = asked built NotBuilt (both-done first (ask built NotBuilt) all.0).1 in
      are (asks_alone q.box q.limit q.keep q.sources) q.tree q.order (and_r (eqb (rows_inside q.box q.sources) (rows_of q.box q.sources)) _ is)

-- the test of a tree over a known number of axes
pub formed-is : (d : ℕ) (t r : Bool) → axes_known d ≡ true → r ≡ (axes_known d && t) → t ≡ r
formed-is d t r k e = sym (e ∙ ap (λ (x : Bool). x && t) k)

-- the new source is outside, or inside
module _ (b : Box) (point : List Float) (n : ℕ) (f : Frame) (e : f ≡ frame_of b) where
  pub point-out : (w : Wall) → w ≡ first_wall n f point → inside f point ≡ false → Err (Source w) ≡ ask (inside (frame_of b) point) (Source (first_wall n (frame_of b) point))
  point-out w h o = ap (λ (x : Wall). Err (Source x)) (h ∙ ap (λ (g : Frame). first_wall n g point) e)
      ∙ sym (ap (λ (t : Bool). ask t (Source (first_wall n (frame_of b) point))) (ap (λ (g : Frame). inside g point) (sym e) ∙ o))

  pub point-in : inside f point ≡ true → accepted ≡ ask (inside (frame_of b) point) (Source (first_wall n (frame_of b) point))
  point-in o = sym (ap (λ (t : Bool). ask t (Source (first_wall n (frame_of b) point))) (ap (λ (g : Frame). inside g point) (sym e) ∙ o))
