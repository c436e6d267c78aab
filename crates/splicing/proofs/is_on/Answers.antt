-- `splicing::is_on` meets its contract.
use native.Mathlib.Omega.{arith}
use Prim.Native.Nat.{◌-◌}
use Rattle.morton.specs.Keys.{level_of}
use Rattle.morton.proofs.Checks.{width-le}
use Rattle.splicing.proofs.is_on.Goals as goal

pub overflow_mul-shift : goal.overflow_mul-shift
overflow_mul-shift c = omega (arith, width-le c.args.axes (16 - level_of c.args.k) c.requires.0 (omega arith))

pub overflow_shr-result : goal.overflow_shr-result
overflow_shr-result c = omega (arith, width-le c.args.axes (16 - level_of c.args.k) c.requires.0 (omega arith))
