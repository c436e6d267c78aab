-- The children of the first i nodes listed have been put, and after a turn those of one more.
use mathlib.Core.Path.{sym, ◌∙◌}
use native.Mathlib.Omega.{arith}
use Rattle.around.proofs.Putting.{parts-length, around-start, listed-inner, listed-beside, around-own, around-room, around-more, around-all}
use Rattle.around.proofs.around_of.Goals as goal

pub loop-i-init : goal.loop-i-init
loop-i-init c = let size = parts-length c.args.frame.now c.requires.in_bounds in around-start c.requires.linked_tree.0 c.requires.linked_tree.1 c.requires.linked_tree.2 c.requires.linked_tree.3 _ _ _ (size.1 ∙ sym size.0) (size.2 ∙ sym size.0)

pub offset_bounds-listed-i : goal.offset_bounds-listed-i
offset_bounds-listed-i c = omega (arith, c.requires.linked_tree.3.fits, c.loop-i-test.true)

pub bounds-listed-i : goal.bounds-listed-i
bounds-listed-i c = omega (arith, c.requires.linked_tree.3.fits, c.loop-i-test.true)

pub offset_bounds-spots-i : goal.offset_bounds-spots-i
offset_bounds-spots-i c = omega (arith, c.requires.linked_tree.3.room, c.loop-i-test.true)

pub bounds-spots-i : goal.bounds-spots-i
bounds-spots-i c = omega (arith, c.requires.linked_tree.3.room, c.loop-i-test.true)

pub put_children-m-requires : goal.put_children-m-requires
put_children-m-requires c = record { linked_tree = (c.requires.linked_tree.0, listed-beside c.requires.linked_tree.0 c.requires.linked_tree.1 c.requires.linked_tree.2 c.requires.linked_tree.3 c.loop-i-test.true, listed-inner c.requires.linked_tree.0 c.requires.linked_tree.1 c.requires.linked_tree.2 c.requires.linked_tree.3 c.loop-i-test.true); entries_in = around-own c.requires.linked_tree.0 c.requires.linked_tree.1 c.requires.linked_tree.2 c.requires.linked_tree.3 c.loop-i-test.true c.loop-i.invariant; in_bounds = (omega (arith, c.requires.in_bounds, c.loop-i.auto.frame), around-room c.requires.linked_tree.0 c.requires.linked_tree.1 c.requires.linked_tree.2 c.requires.linked_tree.3 c.loop-i-test.true c.loop-i.invariant) }

pub loop-i-preserved : goal.loop-i-preserved
loop-i-preserved c = around-more c.requires.linked_tree.0 c.requires.linked_tree.1 c.requires.linked_tree.2 c.requires.linked_tree.3 c.loop-i-test.true c.loop-i.invariant _ _ _ _ c.put_children-m.ensures

pub returns : goal.returns
returns c = around-all c.requires.linked_tree.0 c.requires.linked_tree.1 c.requires.linked_tree.2 c.requires.linked_tree.3 c.loop-i-test.false c.loop-i.invariant
