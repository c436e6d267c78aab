-- `run_copies::copy_run` meets its contract.
use native.Mathlib.Omega.{arith}
use Rattle.run_copies.proofs.Copying.{copied_none, copied_more, copied_all}
use Rattle.run_copies.proofs.copy_run.Goals as goal

pub loop-j-init : goal.loop-j-init
loop-j-init c = copied_none _ _ _ _ _

pub offset_bounds-out-at : goal.offset_bounds-out-at
offset_bounds-out-at c = omega (arith, c.loop-j.invariant.kept, c.loop-j-test.true, c.requires.1)

pub bounds-out-at : goal.bounds-out-at
bounds-out-at c = omega (arith, c.loop-j.invariant.kept, c.loop-j-test.true, c.requires.1)

pub loop-j-preserved : goal.loop-j-preserved
loop-j-preserved c = copied_more _ _ _ _ _ _ _ c.loop-j.invariant c.loop-j-test.true c.requires.0 c.requires.1

pub returns : goal.returns
returns c = copied_all _ _ _ _ _ _ _ c.loop-j.invariant c.loop-j-test.false
