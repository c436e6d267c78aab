-- What the C face tells of a build beside how it ended: the number of nodes and the depth, 0 and 0 after a refusal.
use Rattle.std.specs.Prelude.{List, ℕ, Float}
use Rattle.grids.specs.declared.Grid.{Grid}
use Rattle.growth.specs.declared.Grown.{Grown}

-- what is told in place of a tree after a refusal
abbrev pub no_tree : Grown
no_tree = record { nodes = 0; depth = 0 }

-- the grid of a call from C
abbrev pub grid_at : List Float → List Float → List ℕ → Grid
grid_at origin spacing shape = record { origin = origin; spacing = spacing; shape = shape }
