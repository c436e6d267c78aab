-- Document 01: the refusals of a build, in the order 1, 2, 3, 4, 5, 6, 7, 8, and what it leaves in the lent slices.
use Rattle.std.specs.Prelude.{List, ℕ, leb, length, Ok}
use Rattle.refusal.specs.declared.Refusal.TheVariants.{Room}
use Rattle.refusal.specs.Chain.{ask, ◌then◌}
use Rattle.refusal.specs.Left.{left}
use Rattle.growth.specs.declared.Grown.{Grown}
use Rattle.growth.specs.Grown.{grown}
use Rattle.space.specs.Rows.{rows_of}
use Rattle.tree.specs.Columns.{node_room}
use Rattle.laying.specs.Outcomes.{asked_outcome, inside_outcome, work_outcome}
use Rattle.build.specs.Asked.{Asked, built_keys, built_own, built_begins, built_totals, built_order}
use Rattle.refusal.specs.Outcome.{Answer, Outcome}

-- 8 ROOM: 2 the order, 3 the node columns, of which `nodes` entries count
unfoldable pub column_outcome : Asked → ℕ → ℕ → Outcome
column_outcome a order nodes = ask (leb (rows_of a.box a.sources) order) (Room 2) then ask (leb (length (built_keys a)) nodes) (Room 3)

abbrev pub build_outcome : Asked → ℕ → ℕ → ℕ → Outcome
build_outcome a work order nodes =
    a.early
    then asked_outcome a.box a.sources a.targets a.order
    then inside_outcome a.box a.sources a.targets
    then work_outcome a.box a.sources a.held work
    then column_outcome a order nodes

-- how many entries the lent slices have: the work, the order column, and the four node columns
pub record Rooms : Type 0 where
  pub work : ℕ
  pub order : ℕ
  pub keys : ℕ
  pub own : ℕ
  pub begins : ℕ
  pub totals : ℕ

abbrev pub rooms : (work order keys own begins totals : List ℕ) → Rooms
rooms work order keys own begins totals =
    record { work = length work; order = length order; keys = length keys; own = length own; begins = length begins; totals = length totals }

abbrev pub room_of : Rooms → ℕ
room_of r = node_room r.keys r.own r.begins r.totals

-- ---- a build with so much room
module _ (a : Asked) (r : Rooms) where
  abbrev pub build_check : Outcome
  build_check = build_outcome a r.work r.order (room_of r)

  -- the number of nodes and the depth, or the refusal
  abbrev pub build_answer : Answer Grown
  build_answer = build_check then Ok (grown (built_keys a))

  -- what is left in each of the slices; all of the work is 0
  abbrev pub order_left : List ℕ
  order_left = left build_check r.order (built_order a)

  abbrev pub keys_left : List ℕ
  keys_left = left build_check r.keys (built_keys a)

  abbrev pub own_left : List ℕ
  own_left = left build_check r.own (built_own a)

  abbrev pub begins_left : List ℕ
  begins_left = left build_check r.begins (built_begins a)

  abbrev pub totals_left : List ℕ
  totals_left = left build_check r.totals (built_totals a)
