-- `slices::lower_bound` meets its contract: the answer stays between lo and lo + n.
use Rattle.std.proofs.Common.{rules}
use Prim.Native.Nat.{◌+◌, ◌/◌}
use native.Mathlib.Nat.{zero-add}
use native.Mathlib.Omega.{arith}
use Rattle.slices.proofs.Sorted.{settles, count-le}
use Rattle.slices.proofs.lower_bound.Goals as goal

pub loop-n-init : goal.loop-n-init
loop-n-init c = (search rules, λ s. (search rules, rw zero-add (count-le _ _)))

pub loop-n-preserved-then-s-lo : goal.loop-n-preserved-then-s-lo
loop-n-preserved-then-s-lo c = (search rules, λ s. omega (arith, c.loop-n.invariant.1 s, (settles c.args.x c.args.s.now (c.loop-n.lo + c.loop-n.n / 2) s (omega arith)).0 c.if-s-lo.true))

pub loop-n-preserved : goal.loop-n-preserved
loop-n-preserved c = (search rules, λ s. omega (arith, c.loop-n.invariant.1 s, (settles c.args.x c.args.s.now (c.loop-n.lo + c.loop-n.n / 2) s (omega arith)).1 c.if-s-lo.false))

pub returns : goal.returns
returns c = record { within = search rules; counts = λ s. omega (arith, c.loop-n.invariant.1 s) }
