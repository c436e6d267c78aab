-- The first i entries are parted, and after a turn one more.
use native.Mathlib.Omega.{arith}
use Rattle.lists.proofs.Marks.{parting-none, parting-more, parting-all}
use Rattle.lists.proofs.starts.part_starts.Goals as goal

pub loop-i-init : goal.loop-i-init
loop-i-init c = parting-none _ _

pub loop-i-preserved : goal.loop-i-preserved
loop-i-preserved c = parting-more _ _ _ _ c.loop-i.invariant (omega (arith, c.requires.0, c.loop-i.invariant.raised.size, c.loop-i-test.true)) (omega (arith, c.requires.1, c.loop-i.auto.low, c.loop-i-test.true))

pub returns : goal.returns
returns c = parting-all _ _ _ _ _ c.loop-i.invariant c.loop-i.auto.i-end c.loop-i-test.false
