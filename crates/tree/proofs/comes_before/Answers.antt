-- `tree::comes_before` meets its contract.
use native.Mathlib.Omega.{arith}
use Rattle.tree.proofs.KeyTests.{three, before-coarse, before-fine}
use Rattle.tree.proofs.comes_before.Goals as goal

pub up-requires : goal.up-requires
up-requires c = (three c.args.axes c.requires, omega arith)

pub returns-then-level_a-level_b : goal.returns-then-level_a-level_b
returns-then-level_a-level_b c = before-coarse c.args.axes c.args.a c.args.b _ c.up.ensures c.if-level_a-level_b.true

pub up-requires-2 : goal.up-requires-2
up-requires-2 c = (three c.args.axes c.requires, omega arith)

pub returns : goal.returns
returns c = before-fine c.args.axes c.args.a c.args.b _ c.up-2.ensures c.if-level_a-level_b.false
