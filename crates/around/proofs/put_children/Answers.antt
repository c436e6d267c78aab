-- `around::put_children` meets its contract.
use mathlib.Core.Path.{refl, ◌∙◌}
use Prim.Native.Nat.{◌+◌}
use native.Mathlib.Omega.{arith}
use lib.ListN.{set, length-set}
use Rattle.links.proofs.Walk.{inner-inside}
use Rattle.around.proofs.Putting.{parts-length, put-start, put-inside, put-far, put-room, put-beneath, put-entry, put-all, up_small}
use Rattle.around.proofs.put_children.Goals as goal

pub next_of-end-requires : goal.next_of-end-requires
next_of-end-requires c = ((_, c.requires.linked_tree.0), c.requires.linked_tree.1.inside)

pub first_sourced_child-j-requires : goal.first_sourced_child-j-requires
first_sourced_child-j-requires c = ((_, c.requires.linked_tree.0), inner-inside c.args.key.now c.args.node c.requires.linked_tree.2)

pub loop-j-init : goal.loop-j-init
loop-j-init c = (c.requires.linked_tree.0, c.requires.linked_tree.1, put-start c.requires.linked_tree.0 c.requires.linked_tree.1 c.requires.linked_tree.2 _ _ _ _ _ _ c.requires.entries_in (omega (arith, c.requires.in_bounds.1, (parts-length c.args.frame.now c.requires.in_bounds.0).0)) c.next_of-end.ensures c.first_sourced_child-j.ensures, c.requires.in_bounds.0, refl)

pub offset_bounds-key-j : goal.offset_bounds-key-j
offset_bounds-key-j c = omega (arith, put-inside c.loop-j.invariant.0 c.loop-j.invariant.1 c.loop-j.invariant.2 c.loop-j-test.true)

pub bounds-key-j : goal.bounds-key-j
bounds-key-j c = omega (arith, put-inside c.loop-j.invariant.0 c.loop-j.invariant.1 c.loop-j.invariant.2 c.loop-j-test.true)

pub place_below-place-requires : goal.place_below-place-requires
place_below-place-requires c = (c.loop-j.invariant.0.tree.most, up_small c.loop-j.invariant.0 c.loop-j.invariant.1)

pub offset_bounds-frame-m : goal.offset_bounds-frame-m
offset_bounds-frame-m c = omega (arith, put-room c.loop-j.invariant.0 c.loop-j.invariant.1 c.loop-j.frame c.loop-j.invariant.3 c.loop-j.invariant.2 c.loop-j-test.true, c.loop-j.invariant.3)

pub bounds-frame-m : goal.bounds-frame-m
bounds-frame-m c = omega (arith, put-room c.loop-j.invariant.0 c.loop-j.invariant.1 c.loop-j.frame c.loop-j.invariant.3 c.loop-j.invariant.2 c.loop-j-test.true, c.loop-j.invariant.3)

pub overflow_add-frame : goal.overflow_add-frame
overflow_add-frame c = omega (arith, put-room c.loop-j.invariant.0 c.loop-j.invariant.1 c.loop-j.frame c.loop-j.invariant.3 c.loop-j.invariant.2 c.loop-j-test.true, c.loop-j.invariant.3)

pub offset_bounds-frame-m-in-loop-j : goal.offset_bounds-frame-m-in-loop-j
offset_bounds-frame-m-in-loop-j c = omega (arith, put-room c.loop-j.invariant.0 c.loop-j.invariant.1 c.loop-j.frame c.loop-j.invariant.3 c.loop-j.invariant.2 c.loop-j-test.true, c.loop-j.invariant.3)

pub bounds-frame-m-in-loop-j : goal.bounds-frame-m-in-loop-j
bounds-frame-m-in-loop-j c = omega (arith, put-room c.loop-j.invariant.0 c.loop-j.invariant.1 c.loop-j.frame c.loop-j.invariant.3 c.loop-j.invariant.2 c.loop-j-test.true, c.loop-j.invariant.3, length-set c.loop-j.frame c.loop-j.m c.loop-j.j)

pub touch_mask-requires : goal.touch_mask-requires
touch_mask-requires c = put-beneath c.loop-j.invariant.0 c.loop-j.invariant.1 c.loop-j.invariant.2 c.loop-j-test.true _ c.place_below-place.ensures

pub overflow_add-frame-in-loop-j : goal.overflow_add-frame-in-loop-j
overflow_add-frame-in-loop-j c = omega (arith, put-room c.loop-j.invariant.0 c.loop-j.invariant.1 c.loop-j.frame c.loop-j.invariant.3 c.loop-j.invariant.2 c.loop-j-test.true, c.loop-j.invariant.3)

pub offset_bounds-frame-m-in-loop-j-2 : goal.offset_bounds-frame-m-in-loop-j-2
offset_bounds-frame-m-in-loop-j-2 c = omega (arith, put-room c.loop-j.invariant.0 c.loop-j.invariant.1 c.loop-j.frame c.loop-j.invariant.3 c.loop-j.invariant.2 c.loop-j-test.true, c.loop-j.invariant.3)

pub bounds-frame-m-in-loop-j-2 : goal.bounds-frame-m-in-loop-j-2
bounds-frame-m-in-loop-j-2 c = omega (arith, put-room c.loop-j.invariant.0 c.loop-j.invariant.1 c.loop-j.frame c.loop-j.invariant.3 c.loop-j.invariant.2 c.loop-j-test.true, c.loop-j.invariant.3, length-set c.loop-j.frame c.loop-j.m c.loop-j.j, length-set (set c.loop-j.frame c.loop-j.m c.loop-j.j) (216 + c.loop-j.m) c.place_below-place.result)

pub overflow_add-m : goal.overflow_add-m
overflow_add-m c = omega (arith, put-room c.loop-j.invariant.0 c.loop-j.invariant.1 c.loop-j.frame c.loop-j.invariant.3 c.loop-j.invariant.2 c.loop-j-test.true, c.loop-j.invariant.3)

pub next_of-j-requires : goal.next_of-j-requires
next_of-j-requires c = ((_, c.loop-j.invariant.0), put-inside c.loop-j.invariant.0 c.loop-j.invariant.1 c.loop-j.invariant.2 c.loop-j-test.true)

pub loop-j-smaller : goal.loop-j-smaller
loop-j-smaller c = omega (arith, put-inside c.loop-j.invariant.0 c.loop-j.invariant.1 c.loop-j.invariant.2 c.loop-j-test.true, put-far c.loop-j.invariant.0 c.loop-j.invariant.1 c.loop-j.invariant.2 c.loop-j-test.true, c.next_of-j.ensures)

pub loop-j-preserved : goal.loop-j-preserved
loop-j-preserved c = (c.loop-j.invariant.0, c.loop-j.invariant.1, put-entry c.loop-j.invariant.0 c.loop-j.invariant.1 c.loop-j.frame c.loop-j.invariant.2 c.loop-j-test.true (put-room c.loop-j.invariant.0 c.loop-j.invariant.1 c.loop-j.frame c.loop-j.invariant.3 c.loop-j.invariant.2 c.loop-j-test.true) _ _ c.place_below-place.ensures c.touch_mask.ensures _ c.next_of-j.ensures, omega (arith, c.loop-j.invariant.3, length-set (set (set c.loop-j.frame c.loop-j.m c.loop-j.j) (216 + c.loop-j.m) c.place_below-place.result) (432 + c.loop-j.m) c.touch_mask.result, length-set (set c.loop-j.frame c.loop-j.m c.loop-j.j) (216 + c.loop-j.m) c.place_below-place.result, length-set c.loop-j.frame c.loop-j.m c.loop-j.j), length-set (set (set c.loop-j.frame c.loop-j.m c.loop-j.j) (216 + c.loop-j.m) c.place_below-place.result) (432 + c.loop-j.m) c.touch_mask.result ∙ length-set (set c.loop-j.frame c.loop-j.m c.loop-j.j) (216 + c.loop-j.m) c.place_below-place.result ∙ length-set c.loop-j.frame c.loop-j.m c.loop-j.j ∙ c.loop-j.invariant.4)

pub returns : goal.returns
returns c = put-all c.loop-j.invariant.0 c.loop-j.invariant.1 c.loop-j.invariant.2 c.loop-j-test.false
