-- `balancing::put_cells` meets its contract: what is written, with the cells that are still to come, is all cells.
use mathlib.Core.Path.{refl, ◌∙◌}
use native.Mathlib.Omega.{arith}
use lib.ListN.{length-set}
use Rattle.balancing.proofs.Walking.{walk_none, walk_start, walk-full, walk_more, walk-done, left-falls, keys-root}
use Rattle.balancing.proofs.put_cells.Goals as goal

pub returns-then-room-lt1 : goal.returns-then-room-lt1
returns-then-room-lt1 c = walk_none c.args.axes c.args.key.now _ c.args.room c.requires.0 (keys-root c.args.axes c.args.key.now c.requires.0) c.if-room-lt1.true

pub bounds-out-0 : goal.bounds-out-0
bounds-out-0 c = omega (arith, c.if-room-lt1.false, c.requires.1)

pub next_cell-k-requires : goal.next_cell-k-requires
next_cell-k-requires c = (c.requires.0, keys-root c.args.axes c.args.key.now c.requires.0, c.depth_of-depth.ensures)

pub loop-k-init : goal.loop-k-init
loop-k-init c = (walk_start c.args.axes c.args.key.now c.args.room c.args.out.now _ c.requires.0 (keys-root c.args.axes c.args.key.now c.requires.0) c.if-room-lt1.false c.requires.1 c.next_cell-k.ensures, refl)

pub returns-then-room-n : goal.returns-then-room-n
returns-then-room-n c = walk-full c.args.axes c.args.key.now c.args.room _ c.loop-k.n c.loop-k.k c.requires.0 c.loop-k.invariant.0 c.loop-k-test.true c.if-room-n.true

pub bounds-out-n : goal.bounds-out-n
bounds-out-n c = omega (arith, c.if-room-n.false, c.loop-k.invariant.0.within)

pub overflow_add-n : goal.overflow_add-n
overflow_add-n c = omega (arith, c.if-room-n.false, c.loop-k.invariant.0.within)

pub next_cell-k-requires-in-loop-k : goal.next_cell-k-requires-in-loop-k
next_cell-k-requires-in-loop-k c = (c.requires.0, c.loop-k.invariant.0.good, c.depth_of-depth.ensures)

pub loop-k-smaller : goal.loop-k-smaller
loop-k-smaller c = left-falls c.args.axes c.args.key.now c.args.room _ c.loop-k.n c.loop-k.k _ c.requires.0 c.loop-k.invariant.0 c.loop-k-test.true c.next_cell-k-in-loop-k.ensures.0

pub loop-k-preserved : goal.loop-k-preserved
loop-k-preserved c = (walk_more c.args.axes c.args.key.now c.args.room _ c.loop-k.n c.loop-k.k c.requires.0 c.loop-k.invariant.0 c.loop-k-test.true c.if-room-n.false _ c.next_cell-k-in-loop-k.ensures, length-set c.loop-k.out c.loop-k.n c.loop-k.k ∙ c.loop-k.invariant.1)

pub returns : goal.returns
returns c = walk-done c.args.axes c.args.key.now c.args.room _ c.loop-k.n c.loop-k.k c.loop-k.invariant.0 c.loop-k-test.false
