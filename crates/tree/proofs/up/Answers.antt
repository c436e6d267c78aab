-- `tree::up` meets its contract.
use native.Mathlib.Omega.{arith}
use Rattle.tree.proofs.KeyTests.{far, few-fit}
use Rattle.tree.proofs.up.Goals as goal

pub overflow_mul-shift : goal.overflow_mul-shift
overflow_mul-shift c = omega (arith, few-fit c.args.axes c.args.n c.requires.0 c.requires.1)

pub returns-then-shift-gt63 : goal.returns-then-shift-gt63
returns-then-shift-gt63 c = far c.args.axes c.args.n c.args.code (omega arith) c.if-shift-gt63.true
