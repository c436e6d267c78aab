-- `file_rows::takes_near` meets its contract.
use native.Mathlib.Omega.{arith}
use mathlib.Core.Path.{refl, sym, ◌∙◌}
use borrow.Author.Tests.{not-true, not-false}
use Rattle.tree_file.specs.Trailer.{column_in}
use Rattle.list_rows.proofs.Entries.{tree-keys, cell-level, no-leaf}
use Rattle.file_rows.proofs.Read.{none-near, coarser, finer, node-level}
use Rattle.file_rows.proofs.takes_near.Goals as goal

pub is_leaf-requires : goal.is_leaf-requires
is_leaf-requires c = (c.requires.sectioned, tree-keys c.args.s.axes (column_in c.args.file.now 1) (column_in c.args.file.now 2) c.requires.counted.0.tree, c.requires.counted.2.within)

pub returns-then-not-is_leaf : goal.returns-then-not-is_leaf
returns-then-not-is_leaf c = no-leaf c.args.s.axes (column_in c.args.file.now 1) (column_in c.args.file.now 2) (column_in c.args.file.now 4) c.args.row c.args.node c.args.place c.requires.counted (sym c.is_leaf.ensures ∙ c.if-not-is_leaf.true)

pub number_of-total-requires : goal.number_of-total-requires
number_of-total-requires c = (c.requires.sectioned, omega arith, omega arith, refl)

pub returns-then-total-lt1 : goal.returns-then-total-lt1
returns-then-total-lt1 c = none-near c.args.s.axes (column_in c.args.file.now 1) (column_in c.args.file.now 2) (column_in c.args.file.now 4) c.args.row c.args.node c.args.place c.requires.counted _ c.number_of-total.ensures c.if-total-lt1.true

pub key_of-level-requires : goal.key_of-level-requires
key_of-level-requires c = (c.requires.sectioned, omega arith, omega arith, refl)

pub is_beside-requires : goal.is_beside-requires
is_beside-requires c = omega (arith, cell-level c.args.s.axes (column_in c.args.file.now 1) (column_in c.args.file.now 2) (column_in c.args.file.now 4) c.args.row c.args.node c.args.place c.requires.counted)

pub returns-then-level-from : goal.returns-then-level-from
returns-then-level-from c = coarser c.args.s.axes (column_in c.args.file.now 1) (column_in c.args.file.now 2) (column_in c.args.file.now 4) c.args.row c.args.node c.args.place c.requires.counted _ c.key_of-level.ensures _ c.number_of-total.ensures c.if-total-lt1.false (sym c.is_leaf.ensures ∙ c.if-not-is_leaf.false) c.if-level-from.true c.is_beside.result c.is_beside.ensures

pub is_beside-requires-2 : goal.is_beside-requires-2
is_beside-requires-2 c = omega (arith, node-level c.args.s.axes (column_in c.args.file.now 1) (column_in c.args.file.now 2) (column_in c.args.file.now 4) c.args.row c.args.node c.args.place c.requires.counted _ c.key_of-level.ensures)

pub returns : goal.returns
returns c = finer c.args.s.axes (column_in c.args.file.now 1) (column_in c.args.file.now 2) (column_in c.args.file.now 4) c.args.row c.args.node c.args.place c.requires.counted _ c.key_of-level.ensures _ c.number_of-total.ensures c.if-total-lt1.false (sym c.is_leaf.ensures ∙ c.if-not-is_leaf.false) c.if-level-from.false c.is_beside-2.result c.is_beside-2.ensures
