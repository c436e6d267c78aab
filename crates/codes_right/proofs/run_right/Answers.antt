-- `codes_right::run_right` meets its contract.
use native.Mathlib.Omega.{arith}
use lib.ListN.{length, get_or}
use Prim.Native.Nat.{◌-◌}
use Rattle.morton.specs.Keys.{level_of}
use Rattle.morton.proofs.Checks.{width-le}
use Rattle.points_right.specs.Points.{code_in}
use Rattle.points_right.proofs.Runs.{upto-start, upto-more, upto_done, not-rising, not-index, not-inside}
use Rattle.codes_right.proofs.Held.{held-so, held-not}
use Rattle.codes_right.proofs.run_right.Goals as goal

pub overflow_mul-shift : goal.overflow_mul-shift
overflow_mul-shift c = omega (arith, width-le c.args.axes (16 - level_of c.args.k) c.requires.0 (omega arith))

pub loop-p-init : goal.loop-p-init
loop-p-init c = upto-start (length c.args.codes.now) (code_in c.args.axes c.args.codes.now) c.args.order.now c.args.k c.args.from

pub returns-then-i-low : goal.returns-then-i-low
returns-then-i-low c = not-rising (length c.args.codes.now) (code_in c.args.axes c.args.codes.now) c.args.order.now c.args.k c.args.from c.loop-p.low c.loop-p.p c.loop-p.invariant c.args.to c.loop-p-test.true c.if-i-low.true

pub returns-then-codes-i : goal.returns-then-codes-i
returns-then-codes-i c = not-index (length c.args.codes.now) (code_in c.args.axes c.args.codes.now) c.args.order.now c.args.k c.args.from c.loop-p.low c.loop-p.p c.loop-p.invariant c.args.to c.loop-p-test.true c.if-codes-i.true

pub overflow_shr-codes : goal.overflow_shr-codes
overflow_shr-codes c = omega (arith, width-le c.args.axes (16 - level_of c.args.k) c.requires.0 (omega arith))

pub returns-then-codes-i-2 : goal.returns-then-codes-i-2
returns-then-codes-i-2 c = not-inside (length c.args.codes.now) (code_in c.args.axes c.args.codes.now) c.args.order.now c.args.k c.args.from c.loop-p.low c.loop-p.p c.loop-p.invariant c.args.to c.loop-p-test.true (held-not c.args.axes c.args.codes.now c.args.k (get_or c.args.order.now c.loop-p.p 0) c.if-codes-i-2.true)

pub loop-p-preserved : goal.loop-p-preserved
loop-p-preserved c = upto-more (length c.args.codes.now) (code_in c.args.axes c.args.codes.now) c.args.order.now c.args.k c.args.from c.loop-p.low c.loop-p.p c.loop-p.invariant (omega (arith, c.if-i-low.false)) (omega (arith, c.if-codes-i.false)) (held-so c.args.axes c.args.codes.now c.args.k (get_or c.args.order.now c.loop-p.p 0) c.if-codes-i-2.false)

pub returns : goal.returns
returns c = upto_done (length c.args.codes.now) (code_in c.args.axes c.args.codes.now) c.args.order.now c.args.k c.args.from c.loop-p.low c.loop-p.p c.loop-p.invariant c.args.to (omega (arith, c.loop-p-test.false))
