-- Document 01, "How the tree grows": what a build is asked, and the tree that answers it.
use Rattle.std.specs.Prelude.{Bool, ◌&&◌, cond, List, [], ℕ, Float}
use Rattle.grids.specs.declared.Grid.{Grid}
use Rattle.grids.specs.Grids.{listed}
use Rattle.grid_laying.specs.Outcomes.{grid_outcome}
use Rattle.space.specs.declared.Box.{Box}
use Rattle.tree.specs.Columns.{Columns, columns}
use Rattle.tree.specs.Totals.{total_column}
use Rattle.growth.specs.declared.Rule.{Rule}
use Rattle.growth.specs.Columns.{own_column, begin_column, order_column}
use Rattle.growth.specs.Nodes.{nodes}
use Rattle.laying.specs.Points.{codes_of}
use Rattle.refusal.specs.Outcome.{Outcome, accepted}

-- refinement acts only with both flags: without them the targets are not looked at, as if there were none
abbrev pub used : Bool → Bool → List Float → List Float
used keep refine targets = cond (keep && refine) targets []

-- a build: the box, the cell limit, the order, whether empty cells are stored, the sources, and the targets that are used;
-- what is checked first, and the targets that have to stand in the work, which those of a grid have not
pub record Asked : Type 0 where
  pub box : Box
  pub limit : ℕ
  pub order : ℕ
  pub keep : Bool
  pub sources : List Float
  pub targets : List Float
  pub early : Outcome
  pub held : List Float

abbrev pub asks : Box → ℕ → ℕ → Bool → List Float → List Float → Asked
asks b limit order keep sources targets =
    record { box = b; limit = limit; order = order; keep = keep; sources = sources; targets = targets; early = accepted; held = targets }

-- a build whose targets are the listed points of a grid, where it is `sited`, and else these
abbrev pub asks_at : Box → ℕ → ℕ → Bool → List Float → List Float → Bool → Grid → Asked
asks_at b limit order keep sources targets sited g =
    record {
      box = b;
      limit = limit;
      order = order;
      keep = keep;
      sources = sources;
      targets = cond sited (listed b.axes g) targets;
      early = cond sited (grid_outcome b g) accepted;
      held = cond sited [] targets;
    }

-- what a call with these flags asks
abbrev pub asks_for : Box → (sources targets : List Float) → (limit order : ℕ) → (keep refine : Bool) → Asked
asks_for b sources targets limit order keep refine = asks b limit order keep sources (used keep refine targets)

-- what a call on a grid asks: with both flags the targets are the grid's points, listed; without them the grid is not looked at
abbrev pub asks_on_grid : Box → (sources : List Float) → Grid → (limit order : ℕ) → (keep refine : Bool) → Asked
asks_on_grid b sources g limit order keep refine = asks_at b limit order keep sources [] (keep && refine) g

abbrev pub rule_of : Asked → Rule
rule_of a = record { axes = a.box.axes; limit = a.limit; order = a.order; keep = a.keep }

-- the columns of the tree
unfoldable pub built_keys : Asked → List ℕ
built_keys a = nodes (rule_of a) (codes_of a.box a.sources) (codes_of a.box a.targets)

unfoldable pub built_own : Asked → List ℕ
built_own a = own_column a.box.axes (built_keys a) (codes_of a.box a.sources)

unfoldable pub built_begins : Asked → List ℕ
built_begins a = begin_column (built_own a)

-- the number of sources in each cell and all below it
unfoldable pub built_totals : Asked → List ℕ
built_totals a = total_column a.box.axes (built_keys a) (built_own a)

abbrev pub built_columns : Asked → Columns
built_columns a = columns (built_keys a) (built_own a) (built_begins a) (built_totals a)

unfoldable pub built_order : Asked → List ℕ
built_order a = order_column a.box.axes (built_keys a) (codes_of a.box a.sources)
