-- Order 2, read target by target: near work is the sum over the targets of a call of the sources in the U row of each one's leaf.
use Rattle.std.specs.Prelude.{List, map, ℕ, Float}
use Rattle.slices.specs.Lists.{sum}
use Rattle.space.specs.declared.Box.{Box}
use Rattle.space.specs.Cells.{frame_of}
use Rattle.space.specs.Rows.{rows_of, codes16}
use Rattle.tree.specs.Columns.{Columns}
use Rattle.tree.specs.Nodes.{own_of}
use Rattle.tree.specs.Leaves.{leaf_key}
use Rattle.rows.specs.Lists.{u_row}

-- the sources in the U row of the leaf that holds a level-16 code
abbrev pub sources_near : ℕ → Columns → ℕ → ℕ
sources_near d t code = sum (map (own_of t.keys t.own) (u_row d t.keys t.own (leaf_key d t.keys code)))

-- their sum over the targets of a call, by the code of each
abbrev pub work_by_target : Box → Columns → List Float → ℕ
work_by_target b t targets = sum (map (sources_near b.axes t) (codes16 (rows_of b targets) (frame_of b) targets))
