-- `refine::near_limit` meets its contract: the power is small.
use native.Mathlib.Omega.{arith}
use Rattle.refine.proofs.Limits.{power-fits}
use Rattle.refine.proofs.near_limit.Goals as goal

pub pow-requires : goal.pow-requires
pow-requires c = omega (arith, power-fits c.args.axes c.args.order c.requires.0 c.requires.1)
