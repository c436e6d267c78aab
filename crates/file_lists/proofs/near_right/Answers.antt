-- `file_lists::near_right` meets its contract.
use native.Mathlib.Omega.{arith}
use mathlib.Core.Path.{refl, sym, ◌∙◌}
use borrow.Author.Tests.{not-true, not-false}
use Rattle.tree_file.specs.Trailer.{column_in}
use Rattle.list_rows.proofs.Entries.{tree-keys}
use Rattle.file_lists.proofs.Read.{few, row_up, row_in, inner-tells, near-lost, near-small, near-tells}
use Rattle.file_lists.proofs.near_right.Goals as goal

pub number_of-from-requires : goal.number_of-from-requires
number_of-from-requires c = (c.requires.sectioned.0, omega arith, omega arith, refl)

pub overflow_add-node : goal.overflow_add-node
overflow_add-node c = omega (arith, few c.args.file.now c.args.s c.requires.sectioned.0, c.well_formed.0, c.requires.below.0.within)

pub number_of-to-requires : goal.number_of-to-requires
number_of-to-requires c = (c.requires.sectioned.0, omega arith, omega arith, refl)

pub is_leaf-requires : goal.is_leaf-requires
is_leaf-requires c = (c.requires.sectioned.0, tree-keys c.args.s.axes (column_in c.args.file.now 1) (column_in c.args.file.now 2) c.requires.sectioned.1.tree, c.requires.below.0.within)

pub returns-then-not-is_leaf : goal.returns-then-not-is_leaf
returns-then-not-is_leaf c = inner-tells c.args.s.axes (column_in c.args.file.now 1) (column_in c.args.file.now 2) (column_in c.args.file.now 4) (column_in c.args.file.now 6) (column_in c.args.file.now 7) c.args.node c.args.met c.requires.sectioned.2 c.requires.below.0.within c.number_of-from.result c.number_of-to.result c.number_of-from.ensures c.number_of-to.ensures (sym c.is_leaf.ensures ∙ c.if-not-is_leaf.true)

pub row_sources-requires : goal.row_sources-requires
row_sources-requires c = record { sectioned = (c.requires.sectioned.0, omega arith, omega arith, refl); from_le_to = (row_up (column_in c.args.file.now 1) (column_in c.args.file.now 6) (column_in c.args.file.now 7) c.requires.sectioned.2 c.args.node c.requires.below.0.within c.number_of-from.result c.number_of-to.result c.number_of-from.ensures c.number_of-to.ensures, row_in (column_in c.args.file.now 1) (column_in c.args.file.now 6) (column_in c.args.file.now 7) c.requires.sectioned.2 c.args.node c.requires.below.0.within c.number_of-from.result c.number_of-to.result c.number_of-from.ensures c.number_of-to.ensures); counted = (c.requires.sectioned.1, c.requires.below.1) }

pub returns-in_default : goal.returns-in_default
returns-in_default c = near-lost c.args.s.axes (column_in c.args.file.now 1) (column_in c.args.file.now 2) (column_in c.args.file.now 4) (column_in c.args.file.now 6) (column_in c.args.file.now 7) c.args.node c.args.met c.requires.sectioned.2 c.requires.below.0.within c.number_of-from.result c.number_of-to.result c.number_of-from.ensures c.number_of-to.ensures (sym c.is_leaf.ensures ∙ c.if-not-is_leaf.false) c.args.row.cell c.requires.below.2 c.row_sources.result c.row_sources.ensures c.in_default.is

pub number_of-all-requires : goal.number_of-all-requires
number_of-all-requires c = (c.requires.sectioned.0, omega arith, omega arith, refl)

pub overflow_add-result : goal.overflow_add-result
overflow_add-result c = record { fits = omega (arith, near-small c.args.s.axes (column_in c.args.file.now 1) (column_in c.args.file.now 2) (column_in c.args.file.now 4) (column_in c.args.file.now 6) (column_in c.args.file.now 7) c.args.node c.args.met c.requires.sectioned.2 c.requires.below.0.within c.number_of-from.result c.number_of-to.result c.number_of-from.ensures c.number_of-to.ensures (sym c.is_leaf.ensures ∙ c.if-not-is_leaf.false) c.args.row.cell c.requires.below.2 c.row_sources.result c.row_sources.ensures _ c.in-Some.is, c.requires.below.3) }

pub returns : goal.returns
returns c = near-tells c.args.s.axes (column_in c.args.file.now 1) (column_in c.args.file.now 2) (column_in c.args.file.now 4) (column_in c.args.file.now 6) (column_in c.args.file.now 7) c.args.node c.args.met c.requires.sectioned.2 c.requires.below.0.within c.number_of-from.result c.number_of-to.result c.number_of-from.ensures c.number_of-to.ensures (sym c.is_leaf.ensures ∙ c.if-not-is_leaf.false) c.args.row.cell c.requires.below.2 c.row_sources.result c.row_sources.ensures _ c.in-Some.is _ c.number_of-all.ensures
