-- `full::has_children` meets its contract.
use Rattle.tree.proofs.Leaves.{tree_of}
use Rattle.full.proofs.Counting.{has_last, has-next}
use Rattle.full.proofs.has_children.Goals as goal

pub returns-then-key-next : goal.returns-then-key-next
returns-then-key-next c = has_last c.args.axes c.args.key.now (tree_of _ _ c.requires.0) c.args.node c.requires.1 c.if-key-next.true

pub returns : goal.returns
returns c = has-next c.args.axes c.args.key.now (tree_of _ _ c.requires.0) c.args.node c.requires.1 c.if-key-next.false
