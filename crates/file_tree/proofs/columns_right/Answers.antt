-- `file_tree::columns_right` meets its contract.
use borrow.Author.Tests.{not-true, not-false}
use Rattle.tree_file.specs.Trailer.{column_in}
use Rattle.file_tree.proofs.Read.{other_length, other-root, other-rows, rooted, rowed}
use Rattle.file_tree.proofs.columns_right.Goals as goal

pub returns-then-not-one_length : goal.returns-then-not-one_length
returns-then-not-one_length c = other_length c.args.s.axes c.requires.known (column_in c.args.file.now 1) (column_in c.args.file.now 2) (column_in c.args.file.now 3) (column_in c.args.file.now 4) c.one_length.result c.one_length.ensures (c.if-not-one_length.true)

pub returns-then-not-root_right : goal.returns-then-not-root_right
returns-then-not-root_right c = other-root c.args.s.axes c.requires.known (column_in c.args.file.now 1) (column_in c.args.file.now 2) (column_in c.args.file.now 3) (column_in c.args.file.now 4) c.root_right.result c.root_right.ensures (c.if-not-root_right.true)

pub rows_right-requires : goal.rows_right-requires
rows_right-requires c = (c.requires, rooted c.args.s.axes c.requires.known (column_in c.args.file.now 1) (column_in c.args.file.now 2) (column_in c.args.file.now 3) (column_in c.args.file.now 4) c.one_length.result c.root_right.result c.one_length.ensures (c.if-not-one_length.false) c.root_right.ensures (c.if-not-root_right.false))

pub returns-then-not-rows_right : goal.returns-then-not-rows_right
returns-then-not-rows_right c = other-rows c.args.s.axes c.requires.known (column_in c.args.file.now 1) (column_in c.args.file.now 2) (column_in c.args.file.now 3) (column_in c.args.file.now 4) c.rows_right.result c.rows_right.ensures (c.if-not-rows_right.true)

pub totals_right-requires : goal.totals_right-requires
totals_right-requires c = (c.requires, rowed c.args.s.axes c.requires.known (column_in c.args.file.now 1) (column_in c.args.file.now 2) (column_in c.args.file.now 3) (column_in c.args.file.now 4) c.one_length.result c.rows_right.result c.one_length.ensures (c.if-not-one_length.false) c.rows_right.ensures (c.if-not-rows_right.false))
