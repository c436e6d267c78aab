-- The first j masks are marked, and after a turn one more.
use mathlib.Core.Path.{refl}
use native.Mathlib.Omega.{arith}
use Rattle.node_rows.proofs.Marking.{marked_start, marked-few, marked-store, marked_all}
use Rattle.node_rows.proofs.nearby.mark_near.Goals as goal

pub loop-j-init : goal.loop-j-init
loop-j-init c = marked_start _ _ _

pub offset_bounds-masks-j : goal.offset_bounds-masks-j
offset_bounds-masks-j c = omega (arith, c.requires.0, c.loop-j-test.true)

pub bounds-masks-j : goal.bounds-masks-j
bounds-masks-j c = omega (arith, c.requires.0, c.loop-j-test.true)

pub overflow_shr-bit : goal.overflow_shr-bit
overflow_shr-bit c = omega (arith, c.requires.1)

pub offset_bounds-near-t : goal.offset_bounds-near-t
offset_bounds-near-t c = omega (arith, c.loop-j.auto.near, c.requires.2, c.requires.3, marked-few c.loop-j.invariant _ c.loop-j.auto.j-end)

pub bounds-near-t : goal.bounds-near-t
bounds-near-t c = omega (arith, c.loop-j.auto.near, c.requires.2, c.requires.3, marked-few c.loop-j.invariant _ c.loop-j.auto.j-end)

pub overflow_add-t : goal.overflow_add-t
overflow_add-t c = omega (arith, c.requires.2, marked-few c.loop-j.invariant _ c.loop-j.auto.j-end)

pub loop-j-preserved : goal.loop-j-preserved
loop-j-preserved c = marked-store c.loop-j.invariant (omega (arith, c.loop-j.auto.near, c.requires.2, c.requires.3, marked-few c.loop-j.invariant _ c.loop-j.auto.j-end)) _ (omega arith) refl

pub returns : goal.returns
returns c = marked_all c.loop-j.invariant _ (omega (arith, c.loop-j-test.false)) c.loop-j.auto.j-end
