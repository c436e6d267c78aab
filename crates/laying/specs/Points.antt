-- The points of a build as codes.
use Rattle.std.specs.Prelude.{List, ℕ, Float}
use Rattle.space.specs.declared.Box.{Box}
use Rattle.space.specs.Cells.{frame_of}
use Rattle.space.specs.Rows.{rows_of, codes16}

-- the level-16 code of each row
abbrev pub codes_of : Box → List Float → List ℕ
codes_of b points = codes16 (rows_of b points) (frame_of b) points
