-- `gap_search::cell_at` meets its contract.
use native.Mathlib.Omega.{arith}
use native.Mathlib.Nat.{div-le_self}
use Prim.Native.Nat.{◌*◌, ◌-◌, ◌^◌}
use Rattle.morton.proofs.Checks.{width-le}
use Rattle.gap_search.proofs.cell_at.Goals as goal

pub overflow_mul-shift : goal.overflow_mul-shift
overflow_mul-shift c = omega (arith, width-le c.args.axes (16 - c.args.level) c.requires.0 (omega arith))

pub overflow_shr-result : goal.overflow_shr-result
overflow_shr-result c = omega (arith, width-le c.args.axes (16 - c.args.level) c.requires.0 (omega arith))

pub overflow_mul-result : goal.overflow_mul-result
overflow_mul-result c = omega (arith, c.requires.1, c.requires.2, div-le_self c.args.code (2 ^ (c.args.axes * (16 - c.args.level))))

pub overflow_add-result : goal.overflow_add-result
overflow_add-result c = omega (arith, c.requires.1, c.requires.2, div-le_self c.args.code (2 ^ (c.args.axes * (16 - c.args.level))))
