-- The code, shifted down to the level above the reference depth.
use mathlib.Core.Path.{ap}
use Prim.Native.Nat.{ℕ, ◌*◌, ◌-◌}
use native.Mathlib.Omega.{arith}
use Rattle.refine.proofs.Lifting.{lift-stays, lift-width, lift-fits, lift-is}
use Rattle.refine.proofs.lifted.Goals as goal

pub returns-then-level-depth : goal.returns-then-level-depth
returns-then-level-depth c = lift-stays c.args.axes c.args.depth c.args.key c.requires.0 c.requires.1 (omega (arith, c.level_of-level.ensures, c.if-level-depth.true))

pub overflow_mul-up : goal.overflow_mul-up
overflow_mul-up c = omega (arith, lift-width c.args.axes c.args.depth c.args.key c.requires.0 c.requires.1, ap (λ (l : ℕ). c.args.axes * (l - (c.args.depth - 1))) c.level_of-level.ensures)

pub overflow_shr-result : goal.overflow_shr-result
overflow_shr-result c = omega (arith, lift-width c.args.axes c.args.depth c.args.key c.requires.0 c.requires.1, ap (λ (l : ℕ). c.args.axes * (l - (c.args.depth - 1))) c.level_of-level.ensures)

pub overflow_mul-result : goal.overflow_mul-result
overflow_mul-result c = omega (arith, lift-fits c.args.axes c.args.depth c.args.key c.requires.0 c.requires.1 _ _ c.level_of-level.ensures c.code_of.ensures c.if-level-depth.false)

pub overflow_add-result : goal.overflow_add-result
overflow_add-result c = omega (arith, lift-fits c.args.axes c.args.depth c.args.key c.requires.0 c.requires.1 _ _ c.level_of-level.ensures c.code_of.ensures c.if-level-depth.false)

pub returns : goal.returns
returns c = lift-is c.args.axes c.args.depth c.args.key c.requires.0 c.requires.1 _ _ c.level_of-level.ensures c.code_of.ensures c.if-level-depth.false
