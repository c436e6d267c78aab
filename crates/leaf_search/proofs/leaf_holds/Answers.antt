-- `leaf_search::leaf_holds` meets its contract.
use Rattle.leaf_search.proofs.Searching.{node-level, not-holds, holds-if}
use Rattle.leaf_search.proofs.leaf_holds.Goals as goal

pub up_to-requires : goal.up_to-requires
up_to-requires c = (c.requires.0.axes, node-level c.args.axes c.args.key.now c.requires.0 c.args.code c.args.node c.requires.1)

pub returns-then-up_to-k : goal.returns-then-up_to-k
returns-then-up_to-k c = not-holds c.args.axes c.args.key.now c.requires.0 c.args.code c.args.node _ c.up_to.ensures c.if-up_to-k.true

pub returns : goal.returns
returns c = holds-if c.args.axes c.args.key.now c.requires.0 c.args.code c.args.node _ c.up_to.ensures c.if-up_to-k.false _ c.is_leaf.ensures
