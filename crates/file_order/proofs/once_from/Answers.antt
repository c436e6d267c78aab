-- `file_order::once_from` meets its contract.
use native.Mathlib.Omega.{arith}
use mathlib.Core.Path.{refl}
use mathlib.Core.Logic.{inl, inr}
use Prim.Native.Nat.{◌-◌}
use Rattle.tree_file.specs.Trailer.{column_in}
use Rattle.arrangement.proofs.Marks.{mark-start, mark-done, mark-past, mark-twice, room, more}
use Rattle.file_order.proofs.once_from.Goals as goal

pub count_of-count-requires : goal.count_of-count-requires
count_of-count-requires c = (c.requires, omega arith, omega arith)

pub loop-i-init : goal.loop-i-init
loop-i-init c = mark-start (column_in c.args.file.now 5) c.args.from

pub number_of-index-requires : goal.number_of-index-requires
number_of-index-requires c = (c.requires, omega arith, omega arith, refl)

pub loop-i-preserved-then-index-from : goal.loop-i-preserved-then-index-from
loop-i-preserved-then-index-from c = mark-past (column_in c.args.file.now 5) c.args.from c.loop-i.seen c.loop-i.i c.loop-i.invariant (omega (arith, c.loop-i-test.true, c.count_of-count.ensures)) (inl (omega (arith, c.if-index-from.true, c.number_of-index.ensures)))

pub loop-i-preserved-then-at-ge-WINDOW : goal.loop-i-preserved-then-at-ge-WINDOW
loop-i-preserved-then-at-ge-WINDOW c = mark-past (column_in c.args.file.now 5) c.args.from c.loop-i.seen c.loop-i.i c.loop-i.invariant (omega (arith, c.loop-i-test.true, c.count_of-count.ensures)) (inr (omega (arith, c.if-at-ge-WINDOW.true, c.number_of-index.ensures)))

pub bounds-seen-word : goal.bounds-seen-word
bounds-seen-word c = omega (arith, c.if-at-ge-WINDOW.false, c.loop-i.invariant.size)

pub returns-then-old-at-ne0 : goal.returns-then-old-at-ne0
returns-then-old-at-ne0 c = mark-twice (column_in c.args.file.now 5) c.args.from c.loop-i.seen c.loop-i.i c.loop-i.invariant (omega (arith, c.loop-i-test.true, c.count_of-count.ensures)) (c.number_of-index.result - c.args.from) (omega (arith, c.if-index-from.false, c.number_of-index.ensures)) (omega (arith, c.if-at-ge-WINDOW.false)) c.if-old-at-ne0.true

pub overflow_add-seen : goal.overflow_add-seen
overflow_add-seen c = record { fits = room (column_in c.args.file.now 5) c.args.from c.loop-i.seen c.loop-i.i c.loop-i.invariant (omega (arith, c.loop-i-test.true, c.count_of-count.ensures)) (c.number_of-index.result - c.args.from) (omega (arith, c.if-index-from.false, c.number_of-index.ensures)) (omega (arith, c.if-at-ge-WINDOW.false)) c.if-old-at-ne0.false c.bit_at.result c.bit_at.ensures }

pub bounds-seen-word-in-loop-i : goal.bounds-seen-word-in-loop-i
bounds-seen-word-in-loop-i c = omega (arith, c.if-at-ge-WINDOW.false, c.loop-i.invariant.size)

pub loop-i-preserved : goal.loop-i-preserved
loop-i-preserved c = more (column_in c.args.file.now 5) c.args.from c.loop-i.seen c.loop-i.i c.loop-i.invariant (omega (arith, c.loop-i-test.true, c.count_of-count.ensures)) (c.number_of-index.result - c.args.from) (omega (arith, c.if-index-from.false, c.number_of-index.ensures)) (omega (arith, c.if-at-ge-WINDOW.false)) c.if-old-at-ne0.false c.bit_at.result c.bit_at.ensures

pub returns : goal.returns
returns c = mark-done (column_in c.args.file.now 5) c.args.from c.loop-i.seen c.loop-i.i c.loop-i.invariant (omega (arith, c.loop-i-test.false, c.count_of-count.ensures))
