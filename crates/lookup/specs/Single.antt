-- Document 01: lookup of one point. The checks run in the order 1, 2, 13, then 7 or 12, with index 0.
use Rattle.std.specs.Prelude.{List, ℕ, Float, Ok}
use Rattle.refusal.specs.declared.Refusal.TheVariants.{Tree, Point, Unstored}
use Rattle.refusal.specs.Chain.{ask, ◌then◌}
use Rattle.space.specs.declared.Box.{Box}
use Rattle.space.specs.Domain.{box_outcome}
use Rattle.space.specs.Cells.{frame_of, inside, code16}
use Rattle.space.specs.Walls.{first_wall}
use Rattle.tree.specs.Columns.{Columns}
use Rattle.tree.specs.WellFormed.{well_formed}
use Rattle.tree.specs.Leaves.{held, leaf_key, steps_to}
use Rattle.lookup.specs.declared.Holder.{Holder}
use Rattle.refusal.specs.Outcome.{Answer, Outcome}

-- 1 DIMS, 2 BOX, 13 TREE
abbrev pub tree_outcome : Box → Columns → Outcome
tree_outcome b t = box_outcome b then ask (well_formed b.axes t.keys t.own t.begin t.total) Tree

-- the key of the leaf that holds a code, and the steps to it
abbrev pub leaf_for : ℕ → List ℕ → ℕ → Holder
leaf_for d keys code = record { key = leaf_key d keys code; steps = steps_to d keys code }

-- the leaf that holds a level-16 code, or 12 UNSTORED
abbrev pub code_leaf : ℕ → List ℕ → ℕ → Answer Holder
code_leaf d keys code = ask (held d keys code) (Unstored 0) then Ok (leaf_for d keys code)

-- the leaf that holds a point of a sound box: 7 POINT for one outside and 12 UNSTORED for one that no leaf holds
abbrev pub leaf_at : Box → List ℕ → List Float → Answer Holder
leaf_at b keys xs =
    ask (inside (frame_of b) xs) (Point (first_wall 0 (frame_of b) xs))
    then ask (held b.axes keys (code16 (frame_of b) xs)) (Unstored 0)
    then Ok (leaf_for b.axes keys (code16 (frame_of b) xs))

-- 1, 2 and 13, then 7 POINT for a point outside and 12 UNSTORED for one that no leaf holds
abbrev pub single_outcome : Box → Columns → List Float → Outcome
single_outcome b t xs =
    tree_outcome b t
    then ask (inside (frame_of b) xs) (Point (first_wall 0 (frame_of b) xs))
    then ask (held b.axes t.keys (code16 (frame_of b) xs)) (Unstored 0)

abbrev pub point_to_leaf : Box → Columns → List Float → Answer Holder
point_to_leaf b t xs = single_outcome b t xs then Ok (leaf_for b.axes t.keys (code16 (frame_of b) xs))
