-- `gap_search::is_inner` meets its contract.
use native.Mathlib.Omega.{arith}
use Rattle.gap_search.proofs.Search.{no_node, other-node, by-leaf}
use Rattle.gap_search.proofs.is_inner.Goals as goal

pub returns-then-key-node : goal.returns-then-key-node
returns-then-key-node c = no_node c.args.axes c.args.key.now c.args.node c.args.cell c.if-key-node.true

pub returns-then-key-node-2 : goal.returns-then-key-node-2
returns-then-key-node-2 c = other-node c.args.axes c.args.key.now c.args.node c.args.cell c.if-key-node-2.true

pub is_leaf-requires : goal.is_leaf-requires
is_leaf-requires c = (c.requires, omega (arith, c.if-key-node.false))

pub returns : goal.returns
returns c = by-leaf c.args.axes c.args.key.now c.args.node c.args.cell c.is_leaf.result (omega (arith, c.if-key-node.false)) c.if-key-node-2.false c.is_leaf.ensures
