-- `descent::cell_step` and `descent::children_step` meet their contracts. The levels below fall from a cell step to its children step.
use Prim.Native.Nat.{◌-◌}
use mathlib.Core.Path.{refl, sym, ◌∙◌}
use native.Mathlib.Omega.{arith}
use Rattle.links.proofs.Walk.{inner-inside}
use Rattle.descent.proofs.Walk.{few-fit, parent-left, parent-next, siblings-start, sibling-inside, siblings-next, siblings-parent}
use Rattle.descent.proofs.Owners.{cell-done, cell-stored, none-put, goes_on, more-under, more-leaf, all-put}
use Rattle.descent.proofs.+cell_step_children_step.Goals as goal

pub cell_step-next_of-to-requires : goal.cell_step-next_of-to-requires
cell_step-next_of-to-requires t c = ((_, c.requires.0), c.requires.1.inside)

pub cell_step-overflow_sub-to : goal.cell_step-overflow_sub-to
cell_step-overflow_sub-to t c = omega (arith, (parent-next _ _ _ _ _ c.requires.0 _ _ _ c.requires.1 c.next_of-to.ensures).0)

pub cell_step-store_owners-requires : goal.cell_step-store_owners-requires
cell_step-store_owners-requires t c = let p = parent-next _ _ _ _ _ c.requires.0 _ _ _ c.requires.1 c.next_of-to.ensures in
    (record { axes = _; total = _; links = _; linked = c.requires.0 }, omega (arith, p.0), p.1, few-fit _ _ _ _ c.are_few.ensures c.if-are_few.true)

pub cell_step-returns-then-are_few : goal.cell_step-returns-then-are_few
cell_step-returns-then-are_few t c = cell-stored _ _ _ _ _ c.requires.0 _ _ _ c.requires.1 c.next_of-to.ensures _ _ _ _ c.store_owners.ensures

pub cell_step-first_sourced_child-from-requires : goal.cell_step-first_sourced_child-from-requires
cell_step-first_sourced_child-from-requires t c = ((_, c.requires.0), inner-inside c.args.key.now c.args.node c.requires.1.children)

pub cell_step-overflow_sub-left : goal.cell_step-overflow_sub-left
cell_step-overflow_sub-left t c = omega (arith, parent-left _ _ _ _ _ c.requires.0 _ _ c.requires.1)

pub cell_step-children_step-requires : goal.cell_step-children_step-requires
cell_step-children_step-requires t c = (omega (arith, c.decreases, parent-left _ _ _ _ _ c.requires.0 _ _ c.requires.1), (c.requires.0, siblings-start _ _ _ _ _ c.requires.0 _ _ _ _ c.requires.1 c.first_sourced_child-from.ensures c.next_of-to.ensures))

pub cell_step-returns : goal.cell_step-returns
cell_step-returns t c = cell-done _ _ _ _ _ c.requires.0 _ _ _ _ c.requires.1 c.first_sourced_child-from.ensures c.next_of-to.ensures _ _ _ _ c.children_step.ensures

pub children_step-loop-c-init : goal.children_step-loop-c-init
children_step-loop-c-init t c = (refl, omega arith, c.requires.1, none-put _ _ _ _ _ c.requires.0 _ _ _)

pub children_step-has_children-requires : goal.children_step-has_children-requires
children_step-has_children-requires t c = sibling-inside _ _ _ _ _ c.requires.0 _ _ _ c.loop-c.invariant.2 c.loop-c-test.true

pub children_step-cell_step-m-requires : goal.children_step-cell_step-m-requires
children_step-cell_step-m-requires t c = (omega (arith, c.decreases), (c.requires.0, siblings-parent _ _ _ _ _ c.requires.0 _ _ _ c.loop-c.invariant.2 c.loop-c-test.true (sym c.has_children.ensures ∙ c.if-has_children.true)))

pub children_step-next_of-c-requires : goal.children_step-next_of-c-requires
children_step-next_of-c-requires t c = ((_, c.requires.0), sibling-inside _ _ _ _ _ c.requires.0 _ _ _ c.loop-c.invariant.2 c.loop-c-test.true)

pub children_step-loop-c-smaller-then-has_children : goal.children_step-loop-c-smaller-then-has_children
children_step-loop-c-smaller-then-has_children t c = omega (arith, c.loop-c-test.true, goes_on _ _ _ _ _ c.requires.0 _ _ _ _ c.loop-c.invariant.2 c.loop-c-test.true c.next_of-c.ensures)

pub children_step-loop-c-preserved-then-has_children : goal.children_step-loop-c-preserved-then-has_children
children_step-loop-c-preserved-then-has_children t c = (c.cell_step-m.auto.out ∙ c.loop-c.invariant.0, omega (arith, c.loop-c.invariant.1, goes_on _ _ _ _ _ c.requires.0 _ _ _ _ c.loop-c.invariant.2 c.loop-c-test.true c.next_of-c.ensures), siblings-next _ _ _ _ _ c.requires.0 _ _ _ c.loop-c.invariant.2 c.loop-c-test.true _ c.next_of-c.ensures, more-under _ _ _ _ _ c.requires.0 _ _ _ _ _ c.loop-c.invariant.1 c.loop-c.invariant.2 c.loop-c-test.true c.next_of-c.ensures _ _ _ _ _ _ c.loop-c.invariant.3 c.cell_step-m.ensures)

pub children_step-offset_bounds-key-c : goal.children_step-offset_bounds-key-c
children_step-offset_bounds-key-c t c = omega (arith, sibling-inside _ _ _ _ _ c.requires.0 _ _ _ c.loop-c.invariant.2 c.loop-c-test.true)

pub children_step-bounds-key-c : goal.children_step-bounds-key-c
children_step-bounds-key-c t c = omega (arith, sibling-inside _ _ _ _ _ c.requires.0 _ _ _ c.loop-c.invariant.2 c.loop-c-test.true)

pub children_step-next_of-c-requires-else-has_children : goal.children_step-next_of-c-requires-else-has_children
children_step-next_of-c-requires-else-has_children t c = ((_, c.requires.0), sibling-inside _ _ _ _ _ c.requires.0 _ _ _ c.loop-c.invariant.2 c.loop-c-test.true)

pub children_step-loop-c-smaller : goal.children_step-loop-c-smaller
children_step-loop-c-smaller t c = omega (arith, c.loop-c-test.true, goes_on _ _ _ _ _ c.requires.0 _ _ _ _ c.loop-c.invariant.2 c.loop-c-test.true c.next_of-c-else-has_children.ensures)

pub children_step-loop-c-preserved : goal.children_step-loop-c-preserved
children_step-loop-c-preserved t c = (c.put-m.auto.out ∙ c.loop-c.invariant.0, omega (arith, c.loop-c.invariant.1, goes_on _ _ _ _ _ c.requires.0 _ _ _ _ c.loop-c.invariant.2 c.loop-c-test.true c.next_of-c-else-has_children.ensures), siblings-next _ _ _ _ _ c.requires.0 _ _ _ c.loop-c.invariant.2 c.loop-c-test.true _ c.next_of-c-else-has_children.ensures, more-leaf _ _ _ _ _ c.requires.0 _ _ _ _ _ c.loop-c.invariant.1 c.loop-c.invariant.2 c.loop-c-test.true c.next_of-c-else-has_children.ensures _ _ _ _ _ _ c.loop-c.invariant.3 (sym c.has_children.ensures ∙ c.if-has_children.false) c.put-m.ensures)

pub children_step-returns : goal.children_step-returns
children_step-returns t c = all-put _ _ _ _ _ c.requires.0 _ _ _ _ c.loop-c.invariant.2 c.loop-c-test.false _ _ _ _ c.loop-c.invariant.3
