-- `file_tree::one_length` meets its contract.
use native.Mathlib.Omega.{arith}
use mathlib.Core.Path.{sym, ◌∙◌}
use Rattle.tree_file.specs.Trailer.{column_in}
use Rattle.file_tree.proofs.Read.{by_length}
use Rattle.file_tree.proofs.one_length.Goals as goal

pub count_of-n-requires : goal.count_of-n-requires
count_of-n-requires c = (c.requires, omega arith, omega arith)

pub returns-then-n-lt1 : goal.returns-then-n-lt1
returns-then-n-lt1 c = λ x. omega (arith, c.if-n-lt1.true, c.count_of-n.ensures, x.some)

pub count_of-requires : goal.count_of-requires
count_of-requires c = (c.requires, omega arith, omega arith)

pub returns-then-count_of-n : goal.returns-then-count_of-n
returns-then-count_of-n c = λ x. c.if-count_of-n.true (c.count_of.ensures ∙ x.owns ∙ sym c.count_of-n.ensures)

pub count_of-requires-2 : goal.count_of-requires-2
count_of-requires-2 c = (c.requires, omega arith, omega arith)

pub returns-then-count_of-n-2 : goal.returns-then-count_of-n-2
returns-then-count_of-n-2 c = λ x. c.if-count_of-n-2.true (c.count_of-2.ensures ∙ x.begins ∙ sym c.count_of-n.ensures)

pub count_of-requires-3 : goal.count_of-requires-3
count_of-requires-3 c = (c.requires, omega arith, omega arith)

pub returns : goal.returns
returns c = by_length (column_in c.args.file.now 1) (column_in c.args.file.now 2) (column_in c.args.file.now 3) (column_in c.args.file.now 4) _ _ _ _ c.count_of-n.ensures c.count_of.ensures c.count_of-2.ensures c.count_of-3.ensures c.if-n-lt1.false c.if-count_of-n.false c.if-count_of-n-2.false
