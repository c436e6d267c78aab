-- The steps of a build on a grid.
use Rattle.std.specs.Prelude.{◌≡◌, true, ℕ}
use Rattle.space.specs.declared.Box.{Box}
use Rattle.space.specs.Cells.{frame_of}
use Rattle.grids.specs.declared.Grid.{Grid}
use Rattle.parting.specs.declared.Sizes.{Sizes}
use Rattle.parting.specs.Setting.{Gridded}
use Rattle.parting.specs.Spans.{SpanAt}

-- the sizes of a growth on the grid, all of whose points are inside: 1 stands for its targets, which are not in the work
pub record OnGrid (b : Box) (g : Grid) (sources room depth : ℕ) (z : Sizes) : Type 0 where
  pub sources_are : z.sources ≡ sources
  pub some : z.targets ≡ 1
  pub room_is : z.room ≡ room
  pub depth_is : z.depth ≡ depth
  pub on : z.gridded ≡ true
  pub frame_is : z.frame ≡ frame_of b
  pub grid_is : z.grid ≡ g
  pub gridded : Gridded b.axes z.frame z.grid
  pub spanned : SpanAt b.axes z 0
