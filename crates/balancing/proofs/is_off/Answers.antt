-- `balancing::is_off` meets its contract.
use native.Mathlib.Omega.{arith}
use Rattle.morton.proofs.Arithmetic.{one_shifted}
use Rattle.balancing.proofs.Inside.{small, products, off-low, off-high}
use Rattle.balancing.proofs.is_off.Goals as goal

pub overflow_add-p : goal.overflow_add-p
overflow_add-p c = let e = one_shifted c.args.n c.requires.0 in omega (arith, small c.args.n _ c.requires.0 e)

pub overflow_mul-r : goal.overflow_mul-r
overflow_mul-r c = let e = one_shifted c.args.n c.requires.0 in omega (arith, (products c.args.n c.args.r _ c.requires.0 c.requires.1 e).0)

pub returns-then-p-size : goal.returns-then-p-size
returns-then-p-size c = off-low c.args.n c.args.r c.args.p _ (one_shifted c.args.n c.requires.0) c.if-p-size.true

pub overflow_mul-result : goal.overflow_mul-result
overflow_mul-result c = omega (arith, (products c.args.n c.args.r _ c.requires.0 c.requires.1 (one_shifted c.args.n c.requires.0)).1)

pub returns : goal.returns
returns c = off-high c.args.n c.args.r c.args.p _ (one_shifted c.args.n c.requires.0) c.if-p-size.false
