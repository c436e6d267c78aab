-- `grown_right::is_kept` meets its contract.
use Rattle.grown_right.proofs.Nodes.{kept_on, kept_off}
use Rattle.grown_right.proofs.is_kept.Goals as goal

pub returns-then-g : goal.returns-then-g
returns-then-g c = kept_on c.args.g c.args.n c.if-g.true

pub returns : goal.returns
returns c = kept_off c.args.g c.args.n c.if-g.false
