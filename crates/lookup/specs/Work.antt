-- What the workers of a batch answer.
use Rattle.std.specs.Prelude.{Bool, true, false, List, ◌++◌, ℕ, ◌-◌, ◌/◌, ◌%◌, leb, eqb, length, take, replicate, Err, Ok, Result}
use Rattle.refusal.specs.declared.Refusal.TheVariants.{Shape, Count, Room, Tree, Point, Unstored}
use Rattle.refusal.specs.Chain.{ask, ◌then◌}
use Rattle.space.specs.declared.Box.{Box}
use Rattle.space.specs.Domain.{box_outcome}
use Rattle.space.specs.Rows.{most_points}
use Rattle.tree.specs.Columns.{Columns}
use Rattle.tree.specs.WellFormed.{well_formed}
use Rattle.lookup.specs.Batch.{held_before, steps_sum}
use Rattle.space.specs.Inside.{Inside}
use Rattle.refusal.specs.Outcome.{Answer, Outcome}

-- the leaves that hold the codes: all, with the sum of the steps; or the first code that none holds
abbrev pub all_or : Bool → ℕ → ℕ → Result ℕ ℕ
all_or true steps row = Ok steps
all_or false steps row = Err row

abbrev pub holders_of : ℕ → List ℕ → List ℕ → Result ℕ ℕ
holders_of d keys codes = all_or (eqb (held_before d keys codes) (length codes)) (steps_sum d keys codes) (held_before d keys codes)

-- how many rows stand before the first that is outside
abbrev pub inside_of : Inside → ℕ → ℕ
inside_of (Ok tt) n = n
inside_of (Err wall) n = wall.index

-- the answer where the first rows were looked up, up to one outside: 12 UNSTORED for the first that no leaf holds, else 7 POINT
-- for the one outside, else the steps
abbrev pub answer_of : Result ℕ ℕ → Inside → Answer ℕ
answer_of (Err row) rows = Err (Unstored row)
answer_of (Ok steps) (Ok tt) = Ok steps
answer_of (Ok steps) (Err wall) = Err (Point wall)

-- the checks of `call_outcome`, by how many numbers there are: the first three, and all
unfoldable pub shape_outcome : Box → ℕ → Outcome
shape_outcome b n = box_outcome b then ask (eqb (n % b.axes) 0) Shape then ask (leb (n / b.axes) most_points) Count

unfoldable pub batch_outcome : Box → Columns → ℕ → ℕ → Outcome
unfolding shape_outcome
batch_outcome b t n room = shape_outcome b n then ask (well_formed b.axes t.keys t.own t.begin t.total) Tree then ask (leb (n / b.axes) room) (Room 8)

-- 0 past the n entries found, or throughout after a refusal
abbrev pub rest_cleared : Answer ℕ → ℕ → List ℕ → List ℕ
rest_cleared (Ok steps) n xs = take n xs ++ replicate (length xs - n) 0
rest_cleared (Err r) n xs = replicate (length xs) 0
