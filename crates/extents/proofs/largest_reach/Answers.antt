-- `extents::largest_reach` meets its contract.
use mathlib.Core.Path.{◌≡◌, ap, ◌∙◌}
use native.Mathlib.Omega.{arith}
use lib.Ieee.{nan_bits}
use Rattle.extents.specs.Extents.{largest}
use Rattle.extents.proofs.Spans.{largest-none, largest-more}
use Rattle.extents.proofs.largest_reach.Goals as goal

pub float_from_bits-radius : goal.float_from_bits-radius
unfolding nan_bits
float_from_bits-radius c = tt

pub loop-a-init : goal.loop-a-init
loop-a-init c = largest-none _ _

pub reach_on-requires : goal.reach_on-requires
reach_on-requires c = omega (arith, c.requires, c.loop-a-test.true)

pub loop-a-preserved : goal.loop-a-preserved
loop-a-preserved c = largest-more c.args.extents.now c.args.d c.loop-a.a c.loop-a.radius c.reach_on.result c.larger_of-radius.result c.loop-a.invariant c.reach_on.ensures c.larger_of-radius.ensures

pub returns : goal.returns
returns c = let e : c.loop-a.a ≡ c.args.d = omega arith in c.loop-a.invariant ∙ ap (λ n. largest n c.args.extents.now c.args.d) e
