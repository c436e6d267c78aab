-- `tree::holds` meets its contract.
use native.Mathlib.Omega.{arith}
use Rattle.tree.proofs.KeyTests.{three}
use Rattle.tree.proofs.EndSearch.{holds_not, holds-code}
use Rattle.tree.proofs.holds.Goals as goal

pub returns-then-level_b-level_a : goal.returns-then-level_b-level_a
returns-then-level_b-level_a c = holds_not c.args.axes c.args.a c.args.b c.if-level_b-level_a.true

pub up-requires : goal.up-requires
up-requires c = (three c.args.axes c.requires, omega arith)

pub returns : goal.returns
returns c = holds-code c.args.axes c.args.a c.args.b _ c.up.ensures c.if-level_b-level_a.false
