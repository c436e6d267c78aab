-- `file_rows::is_leaf` meets its contract.
use native.Mathlib.Omega.{arith}
use mathlib.Core.Path.{refl}
use Rattle.tree_file.specs.Trailer.{column_in}
use Rattle.tree.proofs.Leaves.{tree_of, leaf-root, leaf-end}
use Rattle.file_rows.proofs.Read.{leaf-next}
use Rattle.file_rows.proofs.is_leaf.Goals as goal

pub returns-then-node-lt1 : goal.returns-then-node-lt1
returns-then-node-lt1 c = leaf-root c.args.s.axes (column_in c.args.file.now 1) (tree_of _ _ c.requires.1) c.args.node c.requires.2 c.if-node-lt1.true

pub count_of-n-requires : goal.count_of-n-requires
count_of-n-requires c = (c.requires.0, omega arith, omega arith)

pub returns-then-n-next : goal.returns-then-n-next
returns-then-n-next c = leaf-end c.args.s.axes (column_in c.args.file.now 1) (tree_of _ _ c.requires.1) c.args.node c.requires.2 c.if-node-lt1.false (omega (arith, c.if-n-next.true, c.count_of-n.ensures))

pub key_of-below-requires : goal.key_of-below-requires
key_of-below-requires c = (c.requires.0, omega arith, omega arith, refl)

pub key_of-here-requires : goal.key_of-here-requires
key_of-here-requires c = (c.requires.0, omega arith, omega arith, refl)

pub returns : goal.returns
returns c = leaf-next c.args.s.axes (column_in c.args.file.now 1) c.requires.1 c.args.node c.requires.2 c.if-node-lt1.false (omega (arith, c.if-n-next.false, c.count_of-n.ensures)) _ _ c.key_of-below.ensures c.key_of-here.ensures
