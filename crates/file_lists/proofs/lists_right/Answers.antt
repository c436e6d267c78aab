-- `file_lists::lists_right` meets its contract.
use native.Mathlib.Omega.{arith}
use mathlib.Core.Path.{refl}
use borrow.Author.Tests.{not-true, not-false}
use Rattle.tree_file.specs.Trailer.{column_in}
use Rattle.sums.proofs.Tells.{tell-true, tell-false}
use Rattle.list_check.proofs.Judged.{not-u, not-v, judged}
use Rattle.file_lists.proofs.lists_right.Goals as goal

pub starts_right-requires : goal.starts_right-requires
starts_right-requires c = (c.requires.0, omega arith, omega arith, refl)

pub returns-then-not-starts_right : goal.returns-then-not-starts_right
returns-then-not-starts_right c = not-u c.args.s.axes (column_in c.args.file.now 1) (column_in c.args.file.now 2) (column_in c.args.file.now 4) (column_in c.args.file.now 6) (column_in c.args.file.now 7) (column_in c.args.file.now 8) (column_in c.args.file.now 9) c.requires.1 (tell-false c.starts_right.result c.starts_right.ensures (c.if-not-starts_right.true))

pub starts_right-requires-2 : goal.starts_right-requires-2
starts_right-requires-2 c = (c.requires.0, omega arith, omega arith, refl)

pub returns-then-not-starts_right-2 : goal.returns-then-not-starts_right-2
returns-then-not-starts_right-2 c = not-v c.args.s.axes (column_in c.args.file.now 1) (column_in c.args.file.now 2) (column_in c.args.file.now 4) (column_in c.args.file.now 6) (column_in c.args.file.now 7) (column_in c.args.file.now 8) (column_in c.args.file.now 9) c.requires.1 (tell-false c.starts_right-2.result c.starts_right-2.ensures (c.if-not-starts_right-2.true))

pub rows_right-requires : goal.rows_right-requires
rows_right-requires c = (c.requires.0, c.requires.1, record { near = tell-true c.starts_right.result c.starts_right.ensures (c.if-not-starts_right.false); far = tell-true c.starts_right-2.result c.starts_right-2.ensures (c.if-not-starts_right-2.false) })

pub returns : goal.returns
returns c = judged c.args.s.axes (column_in c.args.file.now 1) (column_in c.args.file.now 2) (column_in c.args.file.now 4) (column_in c.args.file.now 6) (column_in c.args.file.now 7) (column_in c.args.file.now 8) (column_in c.args.file.now 9) c.requires.1 (tell-true c.starts_right.result c.starts_right.ensures (c.if-not-starts_right.false)) (tell-true c.starts_right-2.result c.starts_right-2.ensures (c.if-not-starts_right-2.false)) c.rows_right.result c.rows_right.ensures
