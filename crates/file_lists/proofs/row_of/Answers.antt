-- `file_lists::row_of` meets its contract.
use native.Mathlib.Omega.{arith}
use mathlib.Core.Path.{refl}
use Rattle.tree_file.specs.Trailer.{column_in}
use Rattle.file_lists.proofs.Read.{valid-here, deep-here, valid-above, cell-here}
use Rattle.file_lists.proofs.row_of.Goals as goal

pub key_of-cell-requires : goal.key_of-cell-requires
key_of-cell-requires c = (c.requires.0, omega arith, omega arith, refl)

pub place_of-place-requires : goal.place_of-place-requires
place_of-place-requires c = valid-here c.args.s.axes (column_in c.args.file.now 1) (column_in c.args.file.now 2) (column_in c.args.file.now 4) c.requires.1 c.args.node c.requires.2 c.key_of-cell.result c.key_of-cell.ensures

pub parent_of-requires : goal.parent_of-requires
parent_of-requires c = (valid-here c.args.s.axes (column_in c.args.file.now 1) (column_in c.args.file.now 2) (column_in c.args.file.now 4) c.requires.1 c.args.node c.requires.2 c.key_of-cell.result c.key_of-cell.ensures, deep-here c.args.s.axes (column_in c.args.file.now 1) (column_in c.args.file.now 2) (column_in c.args.file.now 4) c.requires.1 c.args.node c.requires.2 c.key_of-cell.result c.key_of-cell.ensures)

pub place_of-above-requires : goal.place_of-above-requires
place_of-above-requires c = valid-above c.args.s.axes (column_in c.args.file.now 1) (column_in c.args.file.now 2) (column_in c.args.file.now 4) c.requires.1 c.args.node c.requires.2 c.key_of-cell.result c.key_of-cell.ensures c.parent_of.result c.parent_of.ensures

pub returns : goal.returns
returns c = record { cell = cell-here c.args.s.axes (column_in c.args.file.now 1) (column_in c.args.file.now 2) (column_in c.args.file.now 4) c.requires.1 c.args.node c.requires.2 c.key_of-cell.result c.key_of-cell.ensures c.place_of-place.result c.place_of-above.result c.parent_of.result c.place_of-place.ensures c.parent_of.ensures c.place_of-above.ensures; key = c.key_of-cell.ensures }
