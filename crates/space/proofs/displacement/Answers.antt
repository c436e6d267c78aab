-- `space::displacement` meets its contract.
use Rattle.space.proofs.Points.{displaced, not-displaced}
use Rattle.space.proofs.displacement.Goals as goal

pub returns-then-a-b : goal.returns-then-a-b
returns-then-a-b c = displaced c.args.b c.args.a c.if-a-b.true

pub returns : goal.returns
returns c = not-displaced c.args.b c.args.a c.if-a-b.false
