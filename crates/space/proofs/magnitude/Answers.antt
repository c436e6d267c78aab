-- `space::magnitude` meets its contract, by what `proofs/Sizes.antt` says of the two tests.
use Rattle.space.proofs.Sizes.{size-zero, size-minus, size-plus}
use Rattle.space.proofs.magnitude.Goals as goal

pub returns-then-x : goal.returns-then-x
returns-then-x c = size-zero c.args.x c.well_formed.0.1 c.if-x.true

pub returns-then-x-2 : goal.returns-then-x-2
returns-then-x-2 c = size-minus c.args.x c.if-x-2.true

pub returns : goal.returns
returns c = size-plus c.args.x c.if-x.false c.if-x-2.false
