-- The first i starts do not fall, and after a turn one more.
use Rattle.list_check.proofs.Starts.{rise-start, rise-more, rise-falls}
use native.Mathlib.Omega.{arith}
use Rattle.list_check.proofs.starts_right.Goals as goal

pub returns-then-starts-key : goal.returns-then-starts-key
returns-then-starts-key c = λ s. c.if-starts-key.true (omega (arith, s.entries))

pub returns-then-starts-ne0 : goal.returns-then-starts-ne0
returns-then-starts-ne0 c = λ s. c.if-starts-ne0.true s.first

pub loop-i-init : goal.loop-i-init
loop-i-init c = rise-start c.args.key.now c.args.starts.now

pub returns-then-starts-i : goal.returns-then-starts-i
returns-then-starts-i c = rise-falls c.args.key.now c.args.starts.now c.args.flat.now c.loop-i.i c.loop-i-test.true c.if-starts-i.true

pub loop-i-preserved : goal.loop-i-preserved
loop-i-preserved c = rise-more c.args.key.now c.args.starts.now c.loop-i.i c.loop-i.invariant c.loop-i-test.true c.if-starts-i.false
