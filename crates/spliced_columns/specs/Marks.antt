-- The marks of the nodes that stay, by which the columns of the tree with one source more are told.
use Rattle.std.specs.Prelude.{ℕ, ◌+◌, eqb}
use Rattle.slices.specs.Lists.{bit}
use Rattle.morton.specs.Keys.{holds}
use Rattle.grow.specs.Rows.{mark_of}

-- of a node that owns so many sources and had so many in its cell: one more where the cell holds the code
abbrev pub row_mark : (d code k own total : ℕ) → ℕ
row_mark d code k own total = mark_of (total + bit (holds d k code)) (eqb own 0)
