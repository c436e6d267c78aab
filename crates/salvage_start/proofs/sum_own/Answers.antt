-- `salvage_start::sum_own` meets its contract.
use native.Mathlib.Omega.{arith}
use Rattle.salvage_start.proofs.Filling.{adding-start, adding-more, adding-over, adding-done}
use Rattle.salvage_start.proofs.sum_own.Goals as goal

pub loop-n-init : goal.loop-n-init
loop-n-init c = adding-start _

pub overflow_sub-run : goal.overflow_sub-run
overflow_sub-run c = omega (arith, c.loop-n.invariant.small)

pub returns-then-run-n : goal.returns-then-run-n
returns-then-run-n c = adding-over _ _ _ c.loop-n.invariant c.loop-n-test.true c.if-run-n.true

pub overflow_add-run : goal.overflow_add-run
overflow_add-run c = omega (arith, c.loop-n.invariant.small, c.if-run-n.false)

pub loop-n-preserved : goal.loop-n-preserved
loop-n-preserved c = adding-more _ _ _ c.loop-n.invariant c.loop-n-test.true c.if-run-n.false

pub returns : goal.returns
returns c = adding-done _ _ _ c.loop-n.invariant c.loop-n-test.false
