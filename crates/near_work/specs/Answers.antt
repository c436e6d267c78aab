-- Order 2: what the call for near work answers for a box, a tree and targets, and what it leaves in the counts, which have so much room.
use Rattle.std.specs.Prelude.{List, map, ℕ, leb, Float, length, Ok}
use Rattle.refusal.specs.declared.Refusal.TheVariants.{Room}
use Rattle.refusal.specs.Chain.{ask, ◌then◌}
use Rattle.refusal.specs.Left.{left}
use Rattle.space.specs.declared.Box.{Box}
use Rattle.tree.specs.Columns.{Columns}
use Rattle.rows.specs.Lists.{near_work}
use Rattle.sourced.specs.Answers.{tree_check}
use Rattle.lookup.specs.Work.{shape_outcome}
use Rattle.lookup.specs.Batch.{points_outcome}
use Rattle.near_work.specs.Work.{weights}
use Rattle.refusal.specs.Outcome.{Answer, Outcome}

-- 1, 2, and 3 and 4 of so many numbers, 13, then 8 where there are fewer counts than nodes
abbrev pub room_check : Box → Columns → ℕ → ℕ → Outcome
room_check b t numbers room = shape_outcome b numbers then tree_check b.axes t then ask (leb (length t.keys) room) (Room 8)

module _ (b : Box) (t : Columns) (targets : List Float) (room : ℕ) where
  -- then lookup's 7 or 12, for the lowest target that is outside or in no leaf
  abbrev pub work_check : Outcome
  work_check = room_check b t (length targets) room then points_outcome b t.keys targets

  -- the work, or the refusal
  abbrev pub work_answer : Answer ℕ
  work_answer = work_check then Ok (near_work b.axes t.keys t.own (weights b t.keys t.own targets))

  -- the targets of each node
  abbrev pub counts_left : List ℕ
  counts_left = left work_check room (map (weights b t.keys t.own targets) t.keys)
