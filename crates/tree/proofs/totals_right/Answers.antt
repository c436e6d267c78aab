-- `tree::totals_right` meets its contract.
use Rattle.tree.proofs.Waiting.{sum_fits, more-fits}
use native.Mathlib.Omega.{arith}
use mathlib.Core.Path.{◌≡◌, refl}
use Prim.Native.Nat.{ℕ, suc, ◌-◌, ◌<◌}
use Rattle.tree.proofs.Waiting.{totals-start, totals-done, totals-more, bad-total, level_in}
use Rattle.tree.proofs.totals_right.Goals as goal

back : (i : ℕ) → 0 < i → i ≡ suc (i - 1)
back i h = omega arith

pub loop-i-init : goal.loop-i-init
loop-i-init c = totals-start _ _ _ _ _ c.requires _ refl

pub bounds-waiting-level : goal.bounds-waiting-level
bounds-waiting-level c = omega (arith, level_in _ _ _ _ _ c.requires c.loop-i.waiting c.loop-i.i (c.loop-i.i - 1) c.loop-i.invariant (back _ c.loop-i-test.true))

pub overflow_add-sum-in-loop-i : goal.overflow_add-sum-in-loop-i
overflow_add-sum-in-loop-i c = record { fits = omega (arith, sum_fits _ _ _ _ _ c.requires c.loop-i.waiting c.loop-i.i (c.loop-i.i - 1) c.loop-i.invariant (back _ c.loop-i-test.true)) }

pub returns-then-total-i : goal.returns-then-total-i
returns-then-total-i c = bad-total _ _ _ _ _ c.requires c.loop-i.waiting c.loop-i.i (c.loop-i.i - 1) c.loop-i.invariant (back _ c.loop-i-test.true) c.if-total-i.true

pub bounds-waiting-level-in-loop-i : goal.bounds-waiting-level-in-loop-i
bounds-waiting-level-in-loop-i c = omega (arith, level_in _ _ _ _ _ c.requires c.loop-i.waiting c.loop-i.i (c.loop-i.i - 1) c.loop-i.invariant (back _ c.loop-i-test.true))

pub bounds-waiting-level-in-loop-i-2 : goal.bounds-waiting-level-in-loop-i-2
bounds-waiting-level-in-loop-i-2 c = omega (arith, level_in _ _ _ _ _ c.requires c.loop-i.waiting c.loop-i.i (c.loop-i.i - 1) c.loop-i.invariant (back _ c.loop-i-test.true))

pub overflow_add-waiting-in-loop-i : goal.overflow_add-waiting-in-loop-i
overflow_add-waiting-in-loop-i c = record { fits = omega (arith, more-fits _ _ _ _ _ c.requires c.loop-i.waiting c.loop-i.i (c.loop-i.i - 1) c.loop-i.invariant (back _ c.loop-i-test.true)) }

pub bounds-waiting-level-in-loop-i-3 : goal.bounds-waiting-level-in-loop-i-3
bounds-waiting-level-in-loop-i-3 c = omega (arith, level_in _ _ _ _ _ c.requires c.loop-i.waiting c.loop-i.i (c.loop-i.i - 1) c.loop-i.invariant (back _ c.loop-i-test.true))

pub loop-i-preserved : goal.loop-i-preserved
loop-i-preserved c = totals-more _ _ _ _ _ c.requires c.loop-i.waiting c.loop-i.i (c.loop-i.i - 1) c.loop-i.invariant (back _ c.loop-i-test.true) c.if-total-i.false _ refl _ refl

pub returns : goal.returns
returns c = totals-done _ _ _ _ _ c.requires _ _ c.loop-i.invariant c.loop-i-test.false
