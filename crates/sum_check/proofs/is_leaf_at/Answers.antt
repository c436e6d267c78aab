-- `sum_check::is_leaf_at` meets its contract.
use Rattle.sum_check.proofs.Checks.{no_node, a-node}
use Rattle.sum_check.proofs.is_leaf_at.Goals as goal

pub returns-then-key-node : goal.returns-then-key-node
returns-then-key-node c = no_node c.args.axes c.args.key.now c.args.node c.if-key-node.true

pub returns : goal.returns
returns c = a-node c.args.axes c.args.key.now c.args.node c.if-key-node.false c.is_leaf.result c.is_leaf.ensures
