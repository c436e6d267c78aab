-- `arrangement::once_from` meets its contract.
use Rattle.arrangement.proofs.Marks.{mark-start, mark-done, mark-past, mark-twice, room, more, elsewhere, place_in}
use lib.ListN.{get_or}
use Prim.Native.Nat.{◌*◌, ◌%◌}
use Rattle.arrangement.proofs.once_from.Goals as goal

pub loop-index-init : goal.loop-index-init
loop-index-init c = mark-start c.args.order.now (c.args.window * 131072)

pub loop-index-preserved-then-index-window : goal.loop-index-preserved-then-index-window
loop-index-preserved-then-index-window c =
    mark-past c.args.order.now (c.args.window * 131072) c.loop-index.seen c.loop-index.index-index c.loop-index.invariant c.loop-index-test.true (elsewhere (get_or c.args.order.now c.loop-index.index-index 0) c.args.window c.if-index-window.true)

pub returns-then-old-at-ne0 : goal.returns-then-old-at-ne0
returns-then-old-at-ne0 c =
    let p = place_in (get_or c.args.order.now c.loop-index.index-index 0) c.args.window c.if-index-window.false in
    mark-twice c.args.order.now (c.args.window * 131072) c.loop-index.seen c.loop-index.index-index c.loop-index.invariant c.loop-index-test.true (get_or c.args.order.now c.loop-index.index-index 0 % 131072) p.0 p.1 c.if-old-at-ne0.true

pub overflow_add-seen : goal.overflow_add-seen
overflow_add-seen c =
    let p = place_in (get_or c.args.order.now c.loop-index.index-index 0) c.args.window c.if-index-window.false in
    record { fits = room c.args.order.now (c.args.window * 131072) c.loop-index.seen c.loop-index.index-index c.loop-index.invariant c.loop-index-test.true (get_or c.args.order.now c.loop-index.index-index 0 % 131072) p.0 p.1 c.if-old-at-ne0.false c.bit_at.result c.bit_at.ensures }

pub loop-index-preserved : goal.loop-index-preserved
loop-index-preserved c =
    let p = place_in (get_or c.args.order.now c.loop-index.index-index 0) c.args.window c.if-index-window.false in
    more c.args.order.now (c.args.window * 131072) c.loop-index.seen c.loop-index.index-index c.loop-index.invariant c.loop-index-test.true (get_or c.args.order.now c.loop-index.index-index 0 % 131072) p.0 p.1 c.if-old-at-ne0.false c.bit_at.result c.bit_at.ensures

pub returns : goal.returns
returns c = mark-done c.args.order.now (c.args.window * 131072) c.loop-index.seen c.loop-index.index-index c.loop-index.invariant c.loop-index-test.false
