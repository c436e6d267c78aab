-- The entries of the nodes passed are summed, and after a turn one more.
use mathlib.Core.Path.{refl}
use native.Mathlib.Omega.{arith}
use Rattle.node_rows.proofs.Marking.{summing-none, summing-more, summing-room}
use Rattle.node_rows.proofs.nearby.sum_at.Goals as goal

pub loop-at-init : goal.loop-at-init
loop-at-init c = summing-none _ _

pub overflow_add-r : goal.overflow_add-r
overflow_add-r c = omega (arith, summing-room _ _ _ _ c.loop-at.invariant _ c.loop-at-test.true refl, c.requires.few)

pub loop-at-preserved : goal.loop-at-preserved
loop-at-preserved c = summing-more _ _ _ _ c.loop-at.invariant _ c.loop-at-test.true refl
