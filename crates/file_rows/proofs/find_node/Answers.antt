-- `file_rows::find_node` meets its contract.
use native.Mathlib.Omega.{arith}
use mathlib.Core.Path.{refl, sym, ◌∙◌}
use Rattle.tree_file.specs.Trailer.{column_in}
use Rattle.tree.proofs.Finding.{none-stored}
use Rattle.file_rows.proofs.Read.{none_here}
use Rattle.file_rows.proofs.find_node.Goals as goal

pub first_from-node-requires : goal.first_from-node-requires
first_from-node-requires c = c.requires

pub count_of-requires : goal.count_of-requires
count_of-requires c = (c.requires, omega arith, omega arith)

pub returns-then-count_of-node : goal.returns-then-count_of-node
returns-then-count_of-node c = none-stored c.args.s.axes (column_in c.args.file.now 1) c.args.k c.first_from-node.result c.first_from-node.ensures (λ l e. omega (arith, c.if-count_of-node.true, c.count_of.ensures))

pub key_of-here-requires : goal.key_of-here-requires
key_of-here-requires c = (c.requires, omega arith, omega arith, refl)

pub returns-then-here-k : goal.returns-then-here-k
returns-then-here-k c = none_here c.args.s.axes (column_in c.args.file.now 1) c.args.k c.first_from-node.result c.first_from-node.ensures _ c.key_of-here.ensures c.if-here-k.true

pub returns : goal.returns
returns c = (omega (arith, c.if-count_of-node.false, c.count_of.ensures), sym c.key_of-here.ensures ∙ c.if-here-k.false)
