-- The refusals of the call for near work, case by case.
use mathlib.Core.Path.{◌≡◌, refl, sym, ap, ◌∙◌}
use mathlib.Core.Bool.{Bool, true, false}
use mathlib.Core.List.{List, map}
use Prim.Native.Nat.{ℕ, ◌≤◌, ◌<◌, ◌/◌, ◌%◌}
use native.Mathlib.Omega.{arith}
use lib.Dec.{leb, eqb}
use lib.Ieee.{Float}
use lib.ListN.{length, replicate}
use borrow.Author.Tests.{leb-true, le-leb, lt-leb}
use Rattle.refusal.specs.declared.Refusal.{Refusal}
use Rattle.refusal.specs.declared.Refusal.TheVariants.{Room, Shape, Count}
use Rattle.refusal.specs.Chain.{ask, ◌then◌}
use Rattle.refusal.specs.Left.{left}
use Rattle.refusal.proofs.Chain.{asked, both-done, after-done, after-refused, answered-refused}
use Rattle.slices.specs.Lists.{filled}
use Rattle.space.specs.declared.Box.{Box}
use Rattle.space.specs.Domain.{box_outcome}
use Rattle.space.specs.Rows.{most_points}
use Rattle.tree.specs.Columns.{columns}
use Rattle.tree.specs.WellFormed.{SoundTree, totals_right}
use Rattle.rows.specs.Lists.{near_work}
use Rattle.sourced.specs.Answers.{tree_check}
use Rattle.sourced.proofs.Checks.{passed, passed-totals}
use Rattle.lookup.specs.Work.{shape_outcome}
use Rattle.lookup.specs.Batch.{points_outcome}
use Rattle.lookup.proofs.Calls.{found-is}
use Rattle.near_work.specs.Work.{weights}
use Rattle.near_work.specs.Answers.{room_check, work_check, work_answer, counts_left}
use Rattle.std.specs.Prelude.{Err, Ok}
use Rattle.refusal.specs.Outcome.{Outcome, accepted}

-- ---- before the targets are looked at
module _ (b : Box) (keys own begin total : List ℕ) (n room : ℕ) where
  pub not-shaped : (r : Refusal) → shape_outcome b n ≡ Err r → Err r ≡ room_check b (columns keys own begin total) n room
  not-shaped r h = sym (ap (λ o. (o then tree_check b.axes (columns keys own begin total)) then ask (leb (length keys) room) (Room 8)) h)

  module _ (s : shape_outcome b n ≡ accepted) where
    pub not-tree : (r : Refusal) → tree_check b.axes (columns keys own begin total) ≡ Err r → Err r ≡ room_check b (columns keys own begin total) n room
    not-tree r h = sym (ap (λ o. (o then tree_check b.axes (columns keys own begin total)) then ask (leb (length keys) room) (Room 8)) s ∙ ap (λ o. o then ask (leb (length keys) room) (Room 8)) h)

    module _ (h : tree_check b.axes (columns keys own begin total) ≡ accepted) where
      after : (t : Bool) → leb (length keys) room ≡ t → ask t (Room 8) ≡ room_check b (columns keys own begin total) n room
      after t e = ap (λ t. ask t (Room 8)) (sym e) ∙ sym (ap (λ o. (o then tree_check b.axes (columns keys own begin total)) then ask (leb (length keys) room) (Room 8)) s ∙ ap (λ o. o then ask (leb (length keys) room) (Room 8)) h)

      pub short : room < length keys → Err (Room 8) ≡ room_check b (columns keys own begin total) n room
      short l = after false (lt-leb (length keys) room l)

      pub enough : length keys ≤ room → accepted ≡ room_check b (columns keys own begin total) n room
      enough l = after true (le-leb (length keys) room l)

  -- what has passed
  pub record Passed : Type 0 where
    pub tree : SoundTree b.axes keys own
    pub totals : totals_right b.axes keys own total ≡ true
    pub few : n / b.axes ≤ most_points
    pub fits : length keys ≤ room

  pub ready : room_check b (columns keys own begin total) n room ≡ accepted → Passed
  unfolding shape_outcome
  ready h =
      let (a, u) = both-done (shape_outcome b n then tree_check b.axes (columns keys own begin total)) (ask (leb (length keys) room) (Room 8)) h in
      let (s, c) = both-done (shape_outcome b n) (tree_check b.axes (columns keys own begin total)) a in
      let (_, m) = both-done (box_outcome b then ask (eqb (n % b.axes) 0) Shape) (ask (leb (n / b.axes) most_points) Count) s in
      record {
        tree = passed b.axes keys own begin total c;
        totals = passed-totals b.axes keys own begin total c;
        few = leb-true (n / b.axes) most_points (asked _ Count m);
        fits = leb-true (length keys) room (asked _ (Room 8) u);
      }

-- ---- the answer, and what is left
module _ (b : Box) (keys own begin total : List ℕ) (xs : List Float) (room : ℕ) where
  -- refused before or at the targets
  module _ (r : Refusal) (h : work_check b (columns keys own begin total) xs room ≡ Err r) where
    pub refused-answer : Err r ≡ work_answer b (columns keys own begin total) xs room
    refused-answer = sym (ap (λ (o : Outcome). o then Ok (near_work b.axes keys own (weights b keys own xs))) h)

    pub refused-left : (counts : List ℕ) (n : ℕ) → n ≡ room → counts ≡ replicate n 0 → counts ≡ counts_left b (columns keys own begin total) xs room
    refused-left counts n e z = z ∙ ap (λ m. replicate m 0) e ∙ sym (ap (λ o. left o room (map (weights b keys own xs) keys)) h)

  pub early : (r : Refusal) → room_check b (columns keys own begin total) (length xs) room ≡ Err r → work_check b (columns keys own begin total) xs room ≡ Err r
  early r h = after-refused (room_check b (columns keys own begin total) (length xs) room) (points_outcome b keys xs) r h

  module _ (h : room_check b (columns keys own begin total) (length xs) room ≡ accepted) where
    pub late : (r : Refusal) → points_outcome b keys xs ≡ Err r → work_check b (columns keys own begin total) xs room ≡ Err r
    late r g = after-done (room_check b (columns keys own begin total) (length xs) room) (points_outcome b keys xs) h ∙ g

    module _ (g : points_outcome b keys xs ≡ accepted) where
      done : work_check b (columns keys own begin total) xs room ≡ accepted
      done = after-done (room_check b (columns keys own begin total) (length xs) room) (points_outcome b keys xs) h ∙ g

      pub done-answer : (w : ℕ) → w ≡ near_work b.axes keys own (weights b keys own xs) → Ok w ≡ work_answer b (columns keys own begin total) xs room
      done-answer w e = ap Ok e ∙ sym (ap (λ (o : Outcome). o then Ok (near_work b.axes keys own (weights b keys own xs))) done)

      pub done-left : (counts : List ℕ) → counts ≡ filled room (map (weights b keys own xs) keys) → counts ≡ counts_left b (columns keys own begin total) xs room
      done-left counts e = e ∙ sym (ap (λ o. left o room (map (weights b keys own xs) keys)) done)

-- ---- what an answer tells of the checks
module _ (b : Box) (keys own begin total : List ℕ) (xs : List Float) (room : ℕ) where
  pub told-work : (w : ℕ) → Ok w ≡ work_answer b (columns keys own begin total) xs room → (work_check b (columns keys own begin total) xs room ≡ accepted) × (w ≡ near_work b.axes keys own (weights b keys own xs))
  told-work w e = found-is (work_check b (columns keys own begin total) xs room) (near_work b.axes keys own (weights b keys own xs)) w (sym e)

  pub told-no-work : (r : Refusal) → Err r ≡ work_answer b (columns keys own begin total) xs room → work_check b (columns keys own begin total) xs room ≡ Err r
  told-no-work r e = answered-refused _ _ _ e
