-- `hints::run_end` meets its contract.
use Rattle.std.proofs.Common.{arith}
use Rattle.hints.proofs.run_end.Goals as goal

pub overflow_add-last-in-loop-last : goal.overflow_add-last-in-loop-last
overflow_add-last-in-loop-last c = omega (arith, c.in_run.ensures c.loop-last-test.true)

pub overflow_add-step : goal.overflow_add-step
overflow_add-step c = omega (arith, c.in_run.ensures c.loop-last-test.true)

pub loop-last-smaller : goal.loop-last-smaller
loop-last-smaller c = omega (arith, c.in_run.ensures c.loop-last-test.true)

pub loop-last-preserved : goal.loop-last-preserved
loop-last-preserved c = let l = c.in_run.ensures c.loop-last-test.true in (l, omega arith, omega arith)
