-- `space::radius_known` meets its contract.
use Rattle.space.proofs.Boxes.{radius-least, radius-under}
use Rattle.space.proofs.radius_known.Goals as goal

pub returns-then-radius : goal.returns-then-radius
returns-then-radius c = radius-least c.args.radius c.if-radius.true

pub returns : goal.returns
returns c = radius-under c.args.radius c.if-radius.false
