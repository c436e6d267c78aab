-- `sum_check::first_large` meets its contract.
use lib.IntN.{pos}
use Rattle.sum_check.proofs.Readings.{read_small, look-start, look-large, look-more, look-done}
use borrow.Author.Tests.{not-true, not-false}
use lib.ListN.{length, get_or}
use mathlib.Core.Path.{◌≡◌, ◌∙◌}
use native.Mathlib.Omega.{arith}
use Rattle.sum_check.proofs.first_large.Goals as goal

pub loop-i-init : goal.loop-i-init
loop-i-init c = look-start c.args.readings.now

pub returns-then-not-is_small : goal.returns-then-not-is_small
returns-then-not-is_small c = look-large c.args.readings.now c.loop-i.i c.loop-i.invariant c.loop-i-test.true c.is_small.result (read_small (get_or c.args.readings.now c.loop-i.i (pos 0)) c.is_small-arg-1.given _ c.is_small.ensures) (c.if-not-is_small.true)

pub loop-i-preserved : goal.loop-i-preserved
loop-i-preserved c = look-more c.args.readings.now c.loop-i.i c.loop-i.invariant c.loop-i-test.true c.is_small.result (read_small (get_or c.args.readings.now c.loop-i.i (pos 0)) c.is_small-arg-1.given _ c.is_small.ensures) (c.if-not-is_small.false)

pub returns : goal.returns
returns c = let e : length c.args.readings.now ≡ c.loop-i.i = omega (arith, c.loop-i-test.false, c.loop-i.auto.i-end) in e ∙ look-done c.args.readings.now c.loop-i.i c.loop-i.invariant c.loop-i-test.false
