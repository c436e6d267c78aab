-- `tree::is_leaf` meets its contract.
use Rattle.tree.proofs.Leaves.{tree_of, leaf-root, leaf-end, leaf-next}
use Rattle.tree.proofs.is_leaf.Goals as goal

pub returns-then-node-lt1 : goal.returns-then-node-lt1
returns-then-node-lt1 c = leaf-root c.args.axes c.args.key.now (tree_of _ _ c.requires.0) c.args.node c.requires.1 c.if-node-lt1.true

pub returns-then-key-next : goal.returns-then-key-next
returns-then-key-next c = leaf-end c.args.axes c.args.key.now (tree_of _ _ c.requires.0) c.args.node c.requires.1 c.if-node-lt1.false c.if-key-next.true

pub returns : goal.returns
returns c = leaf-next c.args.axes c.args.key.now (tree_of _ _ c.requires.0) c.args.node c.requires.1 c.if-node-lt1.false c.if-key-next.false
