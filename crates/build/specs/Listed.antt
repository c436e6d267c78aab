-- Document 02, order 1: the build on a grid beside the build on its listed points.
use Rattle.std.specs.Prelude.{◌≡◌, Bool, true, ◌&&◌, List, [], ℕ, ◌≤◌, Float}
use Rattle.space.specs.declared.Box.{Box}
use Rattle.space.specs.Domain.{box_outcome}
use Rattle.grids.specs.declared.Grid.{Grid}
use Rattle.grids.specs.Grids.{listed, grid_known}
use Rattle.laying.specs.Outcomes.{work_need}
use Rattle.build.specs.Asked.{Asked, used}
use Rattle.build.specs.Outcomes.{Rooms, build_answer, order_left, keys_left, own_left, begins_left, totals_left}
use Rattle.refusal.specs.Outcome.{accepted}

-- two builds answer the same and leave the same in the order column and in the four node columns, each with its own room
pub record SameBuild (a : Asked) (r : Rooms) (x : Asked) (q : Rooms) : Type 0 where
  pub answer : build_answer a r ≡ build_answer x q
  pub order : order_left a r ≡ order_left x q
  pub keys : keys_left a r ≡ keys_left x q
  pub own : own_left a r ≡ own_left x q
  pub begins : begins_left a r ≡ begins_left x q
  pub totals : totals_left a r ≡ totals_left x q

-- the same room but for the work
abbrev pub with_work : ℕ → Rooms → Rooms
with_work work r = record { work = work; order = r.order; keys = r.keys; own = r.own; begins = r.begins; totals = r.totals }

-- neither 16 nor the work decides: where the grid is looked at it is known, and the work is as long as each of the two builds needs it
pub record Undecided (b : Box) (sources : List Float) (g : Grid) (keep refine : Bool) (work long : ℕ) : Type 0 where
  pub known : (keep && refine) ≡ true → box_outcome b ≡ accepted → grid_known b.axes g ≡ true
  pub enough : work_need b sources [] ≤ work
  pub as_listed : work_need b sources (used keep refine (listed b.axes g)) ≤ long
