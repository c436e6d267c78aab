-- `gathering::put_node` meets its contract.
use Rattle.gathering.proofs.Links.{stored_more, fits-still}
use Rattle.gathering.proofs.put_node.Goals as goal

pub bounds-child-p-2 : goal.bounds-child-p-2
bounds-child-p-2 c = fits-still c.args.child.now c.args.n 0 _ _ c.requires.0 c.requires.2

pub returns : goal.returns
returns c = stored_more _ _ _ _ _ _ c.requires.0 c.requires.1 c.requires.2 c.requires.3
