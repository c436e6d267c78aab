-- `list_rows::takes_near` meets its contract.
use Rattle.list_rows.proofs.Entries.{tree-keys, node-level, cell-level, total-in, no-leaf, no-source-u, coarser, finer}
use borrow.Author.Tests.{not-true, not-false}
use native.Mathlib.Omega.{arith}
use mathlib.Core.Path.{sym, ◌∙◌}
use Rattle.list_rows.proofs.takes_near.Goals as goal

pub is_leaf-requires : goal.is_leaf-requires
is_leaf-requires c = (tree-keys c.args.axes c.args.key.now c.args.own.now c.requires.0.tree, c.requires.2.within)

pub returns-then-not-is_leaf : goal.returns-then-not-is_leaf
returns-then-not-is_leaf c = no-leaf c.args.axes c.args.key.now c.args.own.now c.args.total.now c.args.row c.args.node c.args.place c.requires (sym c.is_leaf.ensures ∙ c.if-not-is_leaf.true)

pub is_sourced-requires : goal.is_sourced-requires
is_sourced-requires c = total-in c.args.axes c.args.key.now c.args.own.now c.args.total.now c.args.row c.args.node c.args.place c.requires

pub returns-then-not-is_sourced : goal.returns-then-not-is_sourced
returns-then-not-is_sourced c = no-source-u c.args.axes c.args.key.now c.args.own.now c.args.total.now c.args.row c.args.node c.args.place c.requires c.is_sourced.result c.is_sourced.ensures (c.if-not-is_sourced.true)

pub is_beside-requires : goal.is_beside-requires
is_beside-requires c = omega (arith, cell-level c.args.axes c.args.key.now c.args.own.now c.args.total.now c.args.row c.args.node c.args.place c.requires)

pub returns-then-level-from : goal.returns-then-level-from
returns-then-level-from c = coarser c.args.axes c.args.key.now c.args.own.now c.args.total.now c.args.row c.args.node c.args.place c.requires (sym c.is_leaf.ensures ∙ c.if-not-is_leaf.false) c.is_sourced.result c.is_sourced.ensures (c.if-not-is_sourced.false) c.if-level-from.true c.is_beside.result c.is_beside.ensures

pub is_beside-requires-2 : goal.is_beside-requires-2
is_beside-requires-2 c = omega (arith, node-level c.args.axes c.args.key.now c.args.own.now c.args.total.now c.args.row c.args.node c.args.place c.requires)

pub returns : goal.returns
returns c = finer c.args.axes c.args.key.now c.args.own.now c.args.total.now c.args.row c.args.node c.args.place c.requires (sym c.is_leaf.ensures ∙ c.if-not-is_leaf.false) c.is_sourced.result c.is_sourced.ensures (c.if-not-is_sourced.false) c.if-level-from.false c.is_beside-2.result c.is_beside-2.ensures
