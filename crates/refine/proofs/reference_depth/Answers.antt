-- At each turn the search from the depth reached answers the reference depth.
use native.Mathlib.Omega.{arith}
use Rattle.morton.proofs.Checks.{width-le}
use Rattle.refine.proofs.Depths.{seek-start, seek_found, seek-more, seek-end, cells_are}
use Rattle.refine.proofs.reference_depth.Goals as goal

pub loop-depth-init : goal.loop-depth-init
loop-depth-init c = seek-start _ _

pub overflow_mul-cells : goal.overflow_mul-cells
overflow_mul-cells c = omega (arith, width-le c.args.axes c.loop-depth.depth c.requires c.loop-depth.invariant.high)

pub overflow_shl-cells : goal.overflow_shl-cells
overflow_shl-cells c = omega (arith, width-le c.args.axes c.loop-depth.depth c.requires c.loop-depth.invariant.high)

pub returns-then-sources-cells : goal.returns-then-sources-cells
returns-then-sources-cells c = seek_found c.args.axes c.args.sources _ c.loop-depth.invariant (omega (arith, c.if-sources-cells.true, cells_are c.args.axes c.loop-depth.depth c.requires c.loop-depth.invariant.high))

pub loop-depth-preserved : goal.loop-depth-preserved
loop-depth-preserved c = seek-more c.args.axes c.args.sources _ c.loop-depth.invariant c.loop-depth-test.true (omega (arith, c.if-sources-cells.false, cells_are c.args.axes c.loop-depth.depth c.requires c.loop-depth.invariant.high))

pub returns : goal.returns
returns c = seek-end c.args.axes c.args.sources _ c.loop-depth.invariant c.loop-depth-test.false
