-- `file_lists::far_sources` meets its contract.
use native.Mathlib.Omega.{arith}
use mathlib.Core.Path.{refl}
use Rattle.tree_file.specs.Trailer.{column_in}
use Rattle.file_lists.proofs.Read.{few, row_up, row_in, far-lost, far-small, far-says}
use Rattle.file_lists.proofs.far_sources.Goals as goal

pub number_of-from-requires : goal.number_of-from-requires
number_of-from-requires c = (c.requires.sectioned.0, omega arith, omega arith, refl)

pub overflow_add-node : goal.overflow_add-node
overflow_add-node c = omega (arith, few c.args.file.now c.args.s c.requires.sectioned.0, c.well_formed.0, c.requires.below.0.within)

pub number_of-to-requires : goal.number_of-to-requires
number_of-to-requires c = (c.requires.sectioned.0, omega arith, omega arith, refl)

pub row_sources-requires : goal.row_sources-requires
row_sources-requires c = record { sectioned = (c.requires.sectioned.0, omega arith, omega arith, refl); from_le_to = (row_up (column_in c.args.file.now 1) (column_in c.args.file.now 8) (column_in c.args.file.now 9) c.requires.sectioned.2 c.args.node c.requires.below.0.within c.number_of-from.result c.number_of-to.result c.number_of-from.ensures c.number_of-to.ensures, row_in (column_in c.args.file.now 1) (column_in c.args.file.now 8) (column_in c.args.file.now 9) c.requires.sectioned.2 c.args.node c.requires.below.0.within c.number_of-from.result c.number_of-to.result c.number_of-from.ensures c.number_of-to.ensures); counted = (c.requires.sectioned.1, c.requires.below.1) }

pub returns-in_err-count : goal.returns-in_err-count
returns-in_err-count c = rw c.from_residual.ensures (far-lost c.args.s.axes (column_in c.args.file.now 1) (column_in c.args.file.now 2) (column_in c.args.file.now 4) (column_in c.args.file.now 8) (column_in c.args.file.now 9) c.args.node c.args.above c.requires.sectioned.2 c.requires.below.0.within c.number_of-from.result c.number_of-to.result c.number_of-from.ensures c.number_of-to.ensures c.args.row.cell c.requires.below.2 c.row_sources.result c.row_sources.ensures c.in_err-count.was)

pub overflow_add-above : goal.overflow_add-above
overflow_add-above c = record { fits = omega (arith, far-small c.args.s.axes (column_in c.args.file.now 1) (column_in c.args.file.now 2) (column_in c.args.file.now 4) (column_in c.args.file.now 8) (column_in c.args.file.now 9) c.args.node c.args.above c.requires.sectioned.2 c.requires.below.0.within c.number_of-from.result c.number_of-to.result c.number_of-from.ensures c.number_of-to.ensures c.args.row.cell c.requires.below.2 c.row_sources.result c.row_sources.ensures _ c.in_ok-count.was, c.requires.below.3) }

pub returns : goal.returns
returns c = far-says c.args.s.axes (column_in c.args.file.now 1) (column_in c.args.file.now 2) (column_in c.args.file.now 4) (column_in c.args.file.now 8) (column_in c.args.file.now 9) c.args.node c.args.above c.requires.sectioned.2 c.requires.below.0.within c.number_of-from.result c.number_of-to.result c.number_of-from.ensures c.number_of-to.ensures c.args.row.cell c.requires.below.2 c.row_sources.result c.row_sources.ensures _ c.in_ok-count.was _ c.held.ensures
