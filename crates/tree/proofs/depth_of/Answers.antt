-- `tree::depth_of` meets its contract.
use native.Mathlib.Omega.{arith}
use Rattle.tree.proofs.KeyTests.{depth-more, depth-all}
use Rattle.tree.proofs.depth_of.Goals as goal

pub loop-k-preserved : goal.loop-k-preserved
loop-k-preserved c = (omega (arith, c.max-depth.ensures), depth-more _ _ _ _ c.loop-k-test.true c.max-depth.ensures c.loop-k.invariant.1)

pub returns : goal.returns
returns c = depth-all _ _ _ c.loop-k-test.false c.loop-k.invariant.0 c.loop-k.invariant.1
