-- The first j entries are parted, and after a turn one more.
use native.Mathlib.Omega.{arith}
use borrow.Author.Tests.{eq-eqb, ne_eqb}
use Rattle.around.proofs.Parting.{parts-start, parts-few, parts-far, parts-kept, parts_all}
use Rattle.around.proofs.try_parts.Goals as goal
use Rattle.around.proofs.try_parts.Goals.{then-masks-j-eq1, else-masks-j-eq1}

pub loop-j-init : goal.loop-j-init
loop-j-init c = parts-start _ _ _ _ _ _ _

pub offset_bounds-masks-j : goal.offset_bounds-masks-j
offset_bounds-masks-j c = omega (arith, c.requires.0.fits, c.requires.0.room, c.loop-j-test.true)

pub bounds-masks-j : goal.bounds-masks-j
bounds-masks-j c = omega (arith, c.requires.0.fits, c.requires.0.room, c.loop-j-test.true)

pub overflow_shr-masks : goal.overflow_shr-masks
overflow_shr-masks c = omega (arith, c.requires.0.index)

pub offset_bounds-near-t : goal.offset_bounds-near-t
offset_bounds-near-t c = omega (arith, c.loop-j.auto.near, c.requires.1, parts-few c.loop-j.invariant _ c.requires.0 c.loop-j.auto.j-end)

pub bounds-near-t : goal.bounds-near-t
bounds-near-t c = omega (arith, c.loop-j.auto.near, c.requires.1, parts-few c.loop-j.invariant _ c.requires.0 c.loop-j.auto.j-end)

pub overflow_add-t : goal.overflow_add-t
overflow_add-t c = omega (arith, parts-few c.loop-j.invariant _ c.requires.0 c.loop-j.auto.j-end)

pub offset_bounds-nodes-j : goal.offset_bounds-nodes-j
offset_bounds-nodes-j c = omega (arith, c.requires.0.fits, c.loop-j-test.true)

pub bounds-nodes-j : goal.bounds-nodes-j
bounds-nodes-j c = omega (arith, c.requires.0.fits, c.loop-j-test.true)

pub offset_bounds-key-nodes : goal.offset_bounds-key-nodes
offset_bounds-key-nodes c = omega (arith, c.requires.0.inside _ c.loop-j-test.true)

pub bounds-key-nodes : goal.bounds-key-nodes
bounds-key-nodes c = omega (arith, c.requires.0.inside _ c.loop-j-test.true)

pub loop-j-preserved : goal.loop-j-preserved
loop-j-preserved c = elim c.if-masks-j-eq1.branch [
  | then-masks-j-eq1 w ↦ rw (w.far-is, w.m-is, w.near-is, w.t-is) (parts-kept c.loop-j.invariant (eq-eqb _ 1 w.if-masks-j-eq1.true) (omega (arith, c.loop-j.auto.near, c.requires.1, parts-few c.loop-j.invariant _ c.requires.0 c.loop-j.auto.j-end)))
  | else-masks-j-eq1 w ↦ rw (w.far-is, w.m-is, w.near-is, w.t-is) (parts-far c.loop-j.invariant (ne_eqb _ 1 w.if-masks-j-eq1.false) _ _ w.put-m.ensures)
]

pub returns : goal.returns
returns c = parts_all c.loop-j.invariant _ c.requires.0 c.loop-j-test.false c.loop-j.auto.j-end
