-- `file_rows::takes_far` meets its contract.
use native.Mathlib.Omega.{arith}
use mathlib.Core.Path.{refl}
use Rattle.tree_file.specs.Trailer.{column_in}
use Rattle.file_rows.proofs.Read.{other-level, none-far, touches, is-far}
use Rattle.file_rows.proofs.takes_far.Goals as goal

pub key_of-here-requires : goal.key_of-here-requires
key_of-here-requires c = (c.requires.sectioned, omega arith, omega arith, refl)

pub returns-then-here-row : goal.returns-then-here-row
returns-then-here-row c = other-level c.args.s.axes (column_in c.args.file.now 1) (column_in c.args.file.now 2) (column_in c.args.file.now 4) c.args.row c.args.node c.args.place c.requires.counted _ c.key_of-here.ensures c.if-here-row.true

pub number_of-total-requires : goal.number_of-total-requires
number_of-total-requires c = (c.requires.sectioned, omega arith, omega arith, refl)

pub returns-then-total-lt1 : goal.returns-then-total-lt1
returns-then-total-lt1 c = none-far c.args.s.axes (column_in c.args.file.now 1) (column_in c.args.file.now 2) (column_in c.args.file.now 4) c.args.row c.args.node c.args.place c.requires.counted _ c.number_of-total.ensures c.if-total-lt1.true

pub returns-then-is_beside : goal.returns-then-is_beside
returns-then-is_beside c = touches c.args.s.axes (column_in c.args.file.now 1) (column_in c.args.file.now 2) (column_in c.args.file.now 4) c.args.row c.args.node c.args.place c.requires.counted _ c.key_of-here.ensures _ c.number_of-total.ensures c.if-total-lt1.false c.if-here-row.false c.is_beside.result c.is_beside.ensures c.if-is_beside.true

pub returns : goal.returns
returns c = is-far c.args.s.axes (column_in c.args.file.now 1) (column_in c.args.file.now 2) (column_in c.args.file.now 4) c.args.row c.args.node c.args.place c.requires.counted _ c.key_of-here.ensures _ c.number_of-total.ensures c.if-total-lt1.false c.if-here-row.false c.is_beside.result c.is_beside-2.result c.is_beside.ensures c.if-is_beside.false c.is_beside-2.ensures
