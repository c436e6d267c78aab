-- When a tree file is read and written: the refusals of document 02, order 6, in their order, but for those of short slices.
use Rattle.std.specs.Prelude.{Bool, ◌&&◌, List, ℕ, leb, length}
use Rattle.slices.specs.Lists.{sum}
use Rattle.refusal.specs.declared.Refusal.TheVariants.{Dims, Count, Tree, Section}
use Rattle.refusal.specs.Chain.{ask, ◌then◌}
use Rattle.morton.specs.Keys.{axes_known}
use Rattle.tree.specs.WellFormed.{well_formed}
use Rattle.sums.specs.Right.{lists_are}
use Rattle.sums.specs.Arrangement.{arranges}
use Rattle.tree_file.specs.Contents.{Contents}
use Rattle.tree_file.specs.Written.{sections, body}
use Rattle.tree_file.specs.Trailer.{axes_in, trailer_fits, sections_good, tree_in}
use Rattle.refusal.specs.Outcome.{Outcome}

-- more nodes or list keys than these are not counted
abbrev pub most_nodes : ℕ
most_nodes = 1048576

abbrev pub most_keys : ℕ
most_keys = 16777216

-- the columns are a tree's
abbrev pub columns_right : Contents → Bool
columns_right t = well_formed t.axes t.keys t.own t.begin t.total

-- the order column is an arrangement of all indices below the total, and the lists are document 01's for the columns
abbrev pub rest_right : Contents → Bool
rest_right t = arranges t.order (sum t.own) && lists_are t.axes t.keys t.own t.u_starts t.u_keys t.v_starts t.v_keys

-- no more nodes or list keys than ROOM counts, and no distance or length past u32: the farthest is the first section's, and no section is longer
abbrev pub counts_fit : Contents → Bool
counts_fit t = (leb (length t.keys) most_nodes && (leb (length t.u_keys) most_keys && leb (length t.v_keys) most_keys))
    && leb (length (body (sections t))) 4294967295

-- what the writer asks of a tree: 1, 4, 13, 17
abbrev pub writeable : Contents → Outcome
writeable t = ask (axes_known t.axes) Dims then ask (counts_fit t) Count then ask (columns_right t) Tree then ask (rest_right t) Section

-- what the reader asks of a trailer: 17 for one that does not fit the file, 1, 17 for its sections
abbrev pub sections_check : List ℕ → Outcome
sections_check file = ask (trailer_fits file) Section then ask (axes_known (axes_in file)) Dims then ask (sections_good file) Section

-- and then of the tree: 13, 17
abbrev pub readable : List ℕ → Outcome
readable file = sections_check file then ask (columns_right (tree_in file)) Tree then ask (rest_right (tree_in file)) Section
