-- `grids::is_positive` meets its contract.
use Rattle.grids.proofs.Known.{positive-yes, positive-no}
use Rattle.grids.proofs.is_positive.Goals as goal

pub returns-then-x : goal.returns-then-x
returns-then-x c = positive-yes c.args.x c.is_finite.result c.if-x.true c.is_finite.ensures

pub returns : goal.returns
returns c = positive-no c.args.x c.if-x.false
