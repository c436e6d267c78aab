-- `extents::larger_of` meets its contract.
use Rattle.extents.proofs.Spans.{larger-x, larger-y}
use Rattle.extents.proofs.larger_of.Goals as goal

pub returns-then-x-y : goal.returns-then-x-y
returns-then-x-y c = larger-y c.args.x c.args.y c.if-x-y.true

pub returns : goal.returns
returns c = larger-x c.args.x c.args.y c.if-x-y.false
