-- `balancing::next_after` meets its contract: the climb ends at a cell that has a next sibling, or at the root.
use native.Mathlib.Omega.{arith}
use Rattle.balancing.proofs.Walking.{climb-start, climb-here, climb-up, climb-root, many_is}
use Rattle.balancing.proofs.next_after.Goals as goal

pub loop-level-init : goal.loop-level-init
loop-level-init c = climb-start c.args.axes c.args.k c.requires

pub returns-then-code-many : goal.returns-then-code-many
returns-then-code-many c = climb-here c.args.axes c.args.k _ _ c.loop-level.invariant c.loop-level-test.true _ (many_is c.args.axes c.requires.most) c.if-code-many.true

pub loop-level-preserved : goal.loop-level-preserved
loop-level-preserved c = climb-up c.args.axes c.args.k _ _ c.loop-level.invariant c.loop-level-test.true _ (many_is c.args.axes c.requires.most) c.if-code-many.false

pub returns : goal.returns
returns c = climb-root c.args.axes c.args.k _ _ c.loop-level.invariant (omega (arith, c.loop-level-test.false))
