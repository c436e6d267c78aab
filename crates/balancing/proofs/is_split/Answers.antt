-- `balancing::is_split` meets its contract.
use Rattle.balancing.proofs.Splits.{split-last, split-next}
use Rattle.balancing.proofs.is_split.Goals as goal

pub returns-then-key-next : goal.returns-then-key-next
returns-then-key-next c = split-last c.args.axes c.args.key.now c.requires.0 c.args.node c.requires.1 c.if-key-next.true

pub returns : goal.returns
returns c = split-next c.args.axes c.args.key.now c.requires.0 c.args.node c.requires.1 c.if-key-next.false
