-- `grids::row_point` meets its contract: the axes from a on are done.
use Rattle.grids.proofs.Loops.{rowing-shape}
use mathlib.Core.Path.{refl}
use Prim.Native.Nat.{◌-◌}
use native.Mathlib.Omega.{arith}
use Rattle.grids.proofs.Loops.{rowing_start, rowing-axis, rowing-index, rowing_more}
use Rattle.grids.proofs.row_point.Goals as goal

pub loop-a-init : goal.loop-a-init
loop-a-init c = rowing_start c.args.axes c.args.g c.args.row c.requires.0 c.requires.1 _ refl c.requires.2

pub coordinate-requires : goal.coordinate-requires
coordinate-requires c = (rowing-axis c.args.axes c.args.g c.args.row c.requires.0 c.requires.1 c.loop-a.point c.loop-a.rest c.loop-a.a (c.loop-a.a - 1) c.loop-a.invariant (omega (arith, c.loop-a-test.true)), rowing-index c.args.axes c.args.g c.args.row c.requires.0 c.requires.1 c.loop-a.point c.loop-a.rest c.loop-a.a (c.loop-a.a - 1) c.loop-a.invariant (omega (arith, c.loop-a-test.true)))

pub loop-a-preserved : goal.loop-a-preserved
loop-a-preserved c = rowing_more c.args.axes c.args.g c.args.row c.requires.0 c.requires.1 c.loop-a.point c.loop-a.rest c.loop-a.a (c.loop-a.a - 1) c.loop-a.invariant (omega (arith, c.loop-a-test.true)) c.coordinate.result c.coordinate.ensures

pub returns : goal.returns
returns c = λ a h. c.loop-a.invariant.done a (omega (arith, c.loop-a-test.false)) h

pub nonzero_rem-rest : goal.nonzero_rem-rest
nonzero_rem-rest c = omega (arith, rowing-shape c.args.axes c.args.g c.args.row c.requires.0 c.requires.1 c.loop-a.point c.loop-a.rest c.loop-a.a (c.loop-a.a - 1) c.loop-a.invariant (omega (arith, c.loop-a-test.true)))

pub nonzero_div-rest : goal.nonzero_div-rest
nonzero_div-rest c = omega (arith, rowing-shape c.args.axes c.args.g c.args.row c.requires.0 c.requires.1 c.loop-a.point c.loop-a.rest c.loop-a.a (c.loop-a.a - 1) c.loop-a.invariant (omega (arith, c.loop-a-test.true)))
