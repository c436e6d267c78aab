-- `file_tree::root_right` meets its contract.
use native.Mathlib.Omega.{arith}
use mathlib.Core.Path.{refl, ◌∙◌}
use Rattle.tree_file.specs.Trailer.{column_in}
use Rattle.file_tree.proofs.Read.{by-root}
use Rattle.file_tree.proofs.root_right.Goals as goal

pub key_of-requires : goal.key_of-requires
key_of-requires c = (c.requires, omega arith, omega arith, refl)

pub returns-then-key_of-ne0 : goal.returns-then-key_of-ne0
returns-then-key_of-ne0 c = λ x. c.if-key_of-ne0.true (c.key_of.ensures ∙ x.root)

pub number_of-requires : goal.number_of-requires
number_of-requires c = (c.requires, omega arith, omega arith, refl)

pub returns-then-number_of-ne0 : goal.returns-then-number_of-ne0
returns-then-number_of-ne0 c = λ x. c.if-number_of-ne0.true (c.number_of.ensures ∙ x.rootless)

pub number_of-requires-2 : goal.number_of-requires-2
number_of-requires-2 c = (c.requires, omega arith, omega arith, refl)

pub returns : goal.returns
returns c = by-root (column_in c.args.file.now 1) (column_in c.args.file.now 2) (column_in c.args.file.now 3) (column_in c.args.file.now 4) _ _ _ c.key_of.ensures c.number_of.ensures c.number_of-2.ensures c.if-key_of-ne0.false c.if-number_of-ne0.false
