-- `space::is_finite` meets its contract.
use Rattle.std.proofs.Common.{rules}
use lib.Ieee.{nan_bits}
use Rattle.space.proofs.Walls.{under_top, not-under-top}
use Rattle.space.proofs.is_finite.Goals as goal

pub returns-then-x-top : goal.returns-then-x-top
returns-then-x-top c = under_top c.args.x c.if-x-top.true

pub returns : goal.returns
returns c = not-under-top c.args.x c.if-x-top.false

pub float_from_bits-top : goal.float_from_bits-top
unfolding nan_bits
float_from_bits-top c = search rules
