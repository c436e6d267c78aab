-- Document 02, order 9: the refusals of the call in the order 1, 2, 3, 4, 13, 19, 6, 18, 8, its answer, and what it leaves in the lent slices.
use Rattle.std.specs.Prelude.{◌≡◌, List, ℕ, ◌+◌, ◌≤◌, leb, eqb, Float, length, take, Ok}
use Rattle.refusal.specs.declared.Refusal.TheVariants.{Tree, Partial, Source, NotBuilt, Room}
use Rattle.refusal.specs.Chain.{ask, ◌then◌}
use Rattle.refusal.specs.Left.{left}
use Rattle.space.specs.declared.Box.{Box}
use Rattle.space.specs.Rows.{rows_of, rows_inside, wall_of}
use Rattle.laying.specs.Points.{codes_of}
use Rattle.lookup.specs.Work.{shape_outcome}
use Rattle.tree.specs.Columns.{Columns, node_room}
use Rattle.tree.specs.Totals.{total_column}
use Rattle.tree.specs.WellFormed.{well_formed}
use Rattle.growth.specs.declared.Grown.{Grown}
use Rattle.growth.specs.Grown.{grown}
use Rattle.growth.specs.Columns.{own_column, begin_column, order_column}
use Rattle.balance.specs.Splitting.{balanced_cells}
use Rattle.settling.specs.Settled.{Settles}
use Rattle.balanced.specs.Given.{is_full, is_given}
use Rattle.refusal.specs.Outcome.{Answer, Outcome}

-- how many entries the lent slices have
pub record Rooms : Type 0 where
  pub work : ℕ
  pub order : ℕ
  pub keys : ℕ
  pub own : ℕ
  pub begins : ℕ
  pub totals : ℕ

abbrev pub rooms : (work order keys own begins totals : List ℕ) → Rooms
rooms work order keys own begins totals =
    record { work = length work; order = length order; keys = length keys; own = length own; begins = length begins; totals = length totals }

module _ (b : Box) (points : List Float) (t : Columns) (order : List ℕ) where
  -- 1, 2, 3, 4, 13, 19 PARTIAL, 6, 18 NOTBUILT
  unfoldable pub given_check : Outcome
  given_check =
      shape_outcome b (length points)
      then ask (well_formed b.axes t.keys t.own t.begin t.total) Tree
      then ask (is_full b.axes t.keys) Partial
      then ask (eqb (rows_inside b points) (rows_of b points)) (Source (wall_of b points))
      then ask (is_given b.axes t.keys t.own order (codes_of b points)) NotBuilt

  -- the columns of the balanced tree, over the points
  abbrev pub new_keys : List ℕ
  new_keys = balanced_cells b.axes t.keys

  abbrev pub new_own : List ℕ
  new_own = own_column b.axes new_keys (codes_of b points)

  abbrev pub new_begins : List ℕ
  new_begins = begin_column new_own

  abbrev pub new_totals : List ℕ
  new_totals = total_column b.axes new_keys new_own

  abbrev pub new_order_of : List ℕ
  new_order_of = order_column b.axes new_keys (codes_of b points)

  -- then 8 ROOM: 1 the work, two entries a point, 2 the order, 3 the node columns
  unfoldable pub balance_outcome : ℕ → ℕ → ℕ → Outcome
  balance_outcome work places nodes =
      given_check
      then ask (leb (rows_of b points + rows_of b points) work) (Room 1)
      then ask (leb (rows_of b points) places) (Room 2)
      then ask (leb (length new_keys) nodes) (Room 3)

  -- the cells are written, n of them, and the points can be settled in their leaves
  pub record Started (work places room n : ℕ) (key : List ℕ) : Type 0 where
    pub fits : n ≤ room
    pub number : n ≡ length new_keys
    pub cells : take n key ≡ new_keys
    pub works : rows_of b points ≤ work
    pub orders : rows_of b points ≤ places
    pub settles : Settles b points new_keys

  module _ (r : Rooms) where
    abbrev pub balance_check : Outcome
    balance_check = balance_outcome r.work r.order (node_room r.keys r.own r.begins r.totals)

    -- the number of nodes and the depth, or the refusal
    abbrev pub balance_answer : Answer Grown
    balance_answer = balance_check then Ok (grown new_keys)

    abbrev pub order_left : List ℕ
    order_left = left balance_check r.order new_order_of

    abbrev pub keys_left : List ℕ
    keys_left = left balance_check r.keys new_keys

    abbrev pub own_left : List ℕ
    own_left = left balance_check r.own new_own

    abbrev pub begins_left : List ℕ
    begins_left = left balance_check r.begins new_begins

    abbrev pub totals_left : List ℕ
    totals_left = left balance_check r.totals new_totals
