-- The steps of a build: the points laid out, all rows put, and the lent slices at the end.
use Rattle.std.specs.Prelude.{◌≡◌, Bool, false, List, map, ℕ, ◌≤◌, leb, length, take, replicate}
use Rattle.refusal.specs.declared.Refusal.TheVariants.{Room}
use Rattle.refusal.specs.Chain.{ask, ◌then◌}
use Rattle.slices.specs.Lists.{sum, filled}
use Rattle.space.specs.Rows.{rows_of}
use Rattle.laying.specs.Points.{codes_of}
use Rattle.laying.specs.Outcomes.{asked_outcome, inside_outcome, work_outcome}
use Rattle.parting.specs.declared.Sizes.{Sizes}
use Rattle.growth.specs.Nodes.{nodes}
use Rattle.parting.specs.Setting.{setting}
use Rattle.parting.specs.Spans.{SpanAt}
use Rattle.parting.specs.Parts.{source_codes, target_codes, Coded}
use Rattle.grow.specs.Rows.{sum_marked, own_marked}
use Rattle.filling.specs.Slices.{indices}
use Rattle.build.specs.Asked.{Asked, rule_of, built_keys, built_own, built_begins, built_totals, built_order}
use Rattle.build.specs.Outcomes.{Rooms}
use Rattle.refusal.specs.Outcome.{Outcome}

-- sizes without a grid
pub record Plain (sources targets room depth : ℕ) (z : Sizes) : Type 0 where
  pub sources_are : z.sources ≡ sources
  pub targets_are : z.targets ≡ targets
  pub room_is : z.room ≡ room
  pub depth_is : z.depth ≡ depth
  pub off_grid : z.gridded ≡ false

-- the refusals before the tree is grown, with so much work and so much room in the order column
abbrev pub lay_outcome : Asked → ℕ → ℕ → Outcome
lay_outcome a work room =
    a.early
    then asked_outcome a.box a.sources a.targets a.order
    then inside_outcome a.box a.sources a.targets
    then work_outcome a.box a.sources a.held work
    then ask (leb (rows_of a.box a.sources) room) (Room 2)

-- the codes stand in the work as the growth asks for them, with room for so many rows
pub record LaidOut (a : Asked) (room : ℕ) (z : Sizes) (work sums : List ℕ) : Type 0 where
  pub room_is : z.room ≡ room
  pub fits : z.sources ≤ length sums
  pub coded : Coded (rule_of a) (setting z sums) work
  pub sources_are : source_codes (setting z sums) work ≡ codes_of a.box a.sources
  pub nodes_are : nodes (rule_of a) (codes_of a.box a.sources) (target_codes (setting z sums) work) ≡ built_keys a
  pub spanned : SpanAt a.box.axes z 0

-- all nodes of the tree that is asked for are put, n of them in so much room: their keys and marks, and the words of as many sources in the order of the order column
pub record TreeStarted (a : Asked) (room rows n : ℕ) (work order key mark : List ℕ) : Type 0 where
  pub in_work : rows ≤ length work
  pub in_order : rows ≤ length order
  pub in_room : n ≤ room
  pub number : n ≡ length (built_keys a)
  pub keys : take n key ≡ built_keys a
  pub owns : map own_marked (take n mark) ≡ built_own a
  pub totals : map sum_marked (take n mark) ≡ built_totals a
  pub few : sum (map own_marked (take n mark)) ≤ 1048576
  pub ordered : indices (take rows work) ≡ built_order a

-- the slices after a build that is not refused
pub record BuiltSlices (a : Asked) (r : Rooms) (works orders keys owns begins totals : List ℕ) : Type 0 where
  pub worked : works ≡ replicate r.work 0
  pub ordered : orders ≡ filled r.order (built_order a)
  pub keyed : keys ≡ filled r.keys (built_keys a)
  pub owned : owns ≡ filled r.own (built_own a)
  pub begun : begins ≡ filled r.begins (built_begins a)
  pub summed : totals ≡ filled r.totals (built_totals a)
