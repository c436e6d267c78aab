-- `kept_sources::is_below` meets its contract.
use mathlib.Core.Path.{refl}
use Prim.Native.Nat.{◌%◌, ◌-◌}
use native.Mathlib.Omega.{arith}
use Rattle.morton.proofs.Checks.{width-le}
use Rattle.kept_sources.proofs.Adding.{below-not, below_code}
use Rattle.kept_sources.proofs.is_below.Goals as goal

pub returns-then-deeper-level : goal.returns-then-deeper-level
returns-then-deeper-level c = below-not _ _ _ c.if-deeper-level.true

pub overflow_mul-shift : goal.overflow_mul-shift
overflow_mul-shift c = omega (arith, width-le c.args.axes (c.args.j % 32768 - c.args.k % 32768) c.requires.0 (omega (arith, c.requires.1)))

pub overflow_shr-result : goal.overflow_shr-result
overflow_shr-result c = omega (arith, width-le c.args.axes (c.args.j % 32768 - c.args.k % 32768) c.requires.0 (omega (arith, c.requires.1)))

pub returns : goal.returns
returns c = below_code _ _ _ _ refl c.if-deeper-level.false
