-- `hints::end_within` meets its contract.
use Rattle.std.proofs.Common.{arith}
use Rattle.hints.proofs.end_within.Goals as goal

pub overflow_add-last-then-in_run : goal.overflow_add-last-then-in_run
overflow_add-last-then-in_run c = omega (arith, c.in_run.ensures c.if-in_run.true)

pub loop-step-preserved-then-in_run : goal.loop-step-preserved-then-in_run
loop-step-preserved-then-in_run c = let l = c.in_run.ensures c.if-in_run.true in (l, omega arith)
