-- `grown_right::does_split` meets its contract.
use Rattle.grown_right.proofs.Nodes.{splits-above, splits-deepest}
use Rattle.grown_right.proofs.does_split.Goals as goal

pub returns-then-k-lt16 : goal.returns-then-k-lt16
returns-then-k-lt16 c = splits-above c.args.g c.args.n c.args.k c.if-k-lt16.true

pub returns : goal.returns
returns c = splits-deepest c.args.g c.args.n c.args.k c.if-k-lt16.false
