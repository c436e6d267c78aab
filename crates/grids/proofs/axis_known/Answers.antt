-- `grids::axis_known` meets its contract.
use Rattle.grids.proofs.Known.{no-shape, axis-rest, no_origin}
use Rattle.grids.proofs.axis_known.Goals as goal

pub returns-then-g-a-lt1 : goal.returns-then-g-a-lt1
returns-then-g-a-lt1 c = no-shape c.args.g c.args.a c.if-g-a-lt1.true

pub returns-then-is_finite : goal.returns-then-is_finite
returns-then-is_finite c = axis-rest c.args.g c.args.a c.is_finite.result c.is_positive.result c.if-g-a-lt1.false c.is_finite.ensures c.if-is_finite.true c.is_positive.ensures

pub returns : goal.returns
returns c = no_origin c.args.g c.args.a c.is_finite.result c.is_finite.ensures c.if-is_finite.false
