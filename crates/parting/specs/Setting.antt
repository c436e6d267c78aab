-- What is given to a growth: its sources and targets as they stand in the work, and the sums of the sources, which tell when targets split a cell.
use Rattle.std.specs.Prelude.{◌≡◌, Bool, true, false, cond, List, ℕ, ◌*◌, ◌^◌, ◌≤◌, ◌<◌, length, get_or, take, drop}
use Rattle.slices.specs.Order.{Sorted}
use Rattle.morton.specs.Keys.{axes_known, ValidKey}
use Rattle.morton.specs.Depth.{reference_depth}
use Rattle.refine.specs.Refinement.{splits_for_targets}
use Rattle.refine.specs.Sums.{Sums}
use Rattle.space.specs.declared.Frame.{Frame}
use Rattle.space.specs.Rows.{first_outside}
use Rattle.grids.specs.declared.Grid.{Grid}
use Rattle.grids.specs.Grids.{points_of, listed}
use Rattle.grids.specs.Ranges.{Fitting, grid_codes}
use Rattle.growth.specs.declared.Rule.{Rule}
use Rattle.parting.specs.declared.Sizes.{Sizes}
use Rattle.parting.specs.Cells.{Points, splitting, size_of}
use Rattle.space.specs.Inside.{all_inside}

-- how many sources and used targets there are, the room for rows, the reference depth, whether the targets are those of a grid, and of which;
-- and the sums of the sources. The span of a cell is no part of it.
pub record Setting : Type 0 where
  pub sources : ℕ
  pub targets : ℕ
  pub room : ℕ
  pub depth : ℕ
  pub gridded : Bool
  pub frame : Frame
  pub grid : Grid
  pub sums : List ℕ

abbrev pub setting : Sizes → List ℕ → Setting
setting z sums =
    record { sources = z.sources; targets = z.targets; room = z.room; depth = z.depth; gridded = z.gridded; frame = z.frame; grid = z.grid; sums = sums }

-- the codes of the targets: of the grid's points, or those that stand first behind the words and their room
abbrev pub aims_at : Setting → List ℕ → List ℕ
aims_at z beyond = cond z.gridded (grid_codes z.frame z.grid) (take z.targets beyond)

-- a grid whose points are all inside
pub record Gridded (d : ℕ) (f : Frame) (g : Grid) : Type 0 where
  pub fits : Fitting f g
  pub axes : f.axes ≡ d
  pub inside : first_outside (points_of f.axes g) f (listed f.axes g) ≡ all_inside

-- what refinement asks: few targets, ascending or those of a grid, and the sums of these sources at the reference depth
pub record Refined (g : Rule) (z : Setting) (sources targets : List ℕ) : Type 0 where
  pub order : g.order ≤ 64
  pub few : z.targets ≤ 1048576
  pub sorted : z.gridded ≡ false → Sorted targets
  pub lies_on_grid : z.gridded ≡ true → Gridded g.axes z.frame z.grid
  pub deep : z.depth ≡ reference_depth g.axes z.sources
  pub sums : Sums g.axes z.depth sources z.sums

-- the points of a build: few sources with codes of level 16, and the targets
pub record Given (g : Rule) (z : Setting) (p : Points) : Type 0 where
  pub known : axes_known g.axes ≡ true
  pub all : length p.sources ≡ z.sources
  pub few : z.sources ≤ 1048576
  pub codes : (i : ℕ) → i < length p.sources → get_or p.sources i 0 < 2 ^ (g.axes * 16)
  pub room : z.gridded ≡ false → z.targets ≤ length p.beyond
  pub some : z.gridded ≡ true → 0 < z.targets
  pub aimed : p.targets ≡ aims_at z p.beyond
  pub refined : 0 < z.targets → Refined g z p.sources p.targets

-- these points, and what stands behind the words and their room
pub record Behind (g : Rule) (z : Setting) (p : Points) (work : List ℕ) : Type 0 where
  pub given : Given g z p
  pub beyond : drop (2 * z.sources) work ≡ p.beyond

-- whether cell k with so many sources splits
abbrev pub DecidesSplit : Rule → Setting → ℕ → ℕ → List ℕ → Bool → Type 0
DecidesSplit g z k count work r = (p : Points) → Behind g z p work → count ≡ size_of g p k → r ≡ splitting g p k

-- a cell that is asked for its targets in the work, where there are some
abbrev pub Aimed : Rule → Setting → ℕ → List ℕ → Type 0
Aimed g z k work = ValidKey g.axes k × (0 < z.targets) × ((p : Points) × Behind g z p work) × (z.gridded ≡ false)

-- whether they split it
abbrev pub CountsTargets : Rule → Setting → ℕ → List ℕ → Bool → Type 0
CountsTargets g z k work r = (p : Points) → Behind g z p work → r ≡ splits_for_targets g.axes g.limit g.order p.sources p.targets k

-- the same of a grid's points
abbrev pub CountsPoints : Rule → Setting → ℕ → Bool → Type 0
CountsPoints g z k r = (p : Points) → Given g z p → r ≡ splits_for_targets g.axes g.limit g.order p.sources p.targets k
