-- What the reader answers, and what it leaves in the lent slices: document 02, order 6.
use Rattle.std.specs.Prelude.{List, ℕ, length, Ok}
use Rattle.refusal.specs.Chain.{◌then◌}
use Rattle.refusal.specs.Left.{left}
use Rattle.tree_file.specs.Contents.{Contents}
use Rattle.tree_file.specs.Trailer.{tree_in}
use Rattle.file_judged.specs.Rooms.{Rooms, read_check}
use Rattle.read_file.specs.declared.ReadTree.{ReadTree}
use Rattle.refusal.specs.Outcome.{Answer}

-- the numbers of axes, nodes, sources and keys in U and V
abbrev pub numbers_of : Contents → ReadTree
numbers_of t = record { axes = t.axes; nodes = length t.keys; sources = length t.order; u = length t.u_keys; v = length t.v_keys }

abbrev pub reading_answer : List ℕ → Rooms → Answer ReadTree
reading_answer file r = read_check file r then Ok (numbers_of (tree_in file))

-- a column of the tree in a slice of so many entries, and then 0; 0 throughout after a refusal
abbrev pub reading_left : List ℕ → Rooms → ℕ → List ℕ → List ℕ
reading_left file r places column = left (read_check file r) places column
