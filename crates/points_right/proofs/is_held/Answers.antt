-- `points_right::is_held` meets its contract.
use mathlib.Core.Path.{sym, ◌∙◌}
use native.Mathlib.Omega.{arith}
use Prim.Native.Nat.{◌-◌}
use Rattle.points_right.proofs.Codes.{in-none, in_code}
use Rattle.morton.specs.Keys.{level_of}
use Rattle.morton.proofs.Checks.{width-le}
use Rattle.points_right.proofs.is_held.Goals as goal

pub returns-in_default : goal.returns-in_default
returns-in_default c = in-none c.args.f c.args.points.now c.args.k c.args.i (sym c.code_at.ensures ∙ c.in_default.is)

pub overflow_mul-shift : goal.overflow_mul-shift
overflow_mul-shift c = omega (arith, width-le c.args.f.axes (16 - level_of c.args.k) c.requires.1 (omega arith))

pub overflow_shr-result : goal.overflow_shr-result
overflow_shr-result c = omega (arith, width-le c.args.f.axes (16 - level_of c.args.k) c.requires.1 (omega arith))

pub returns : goal.returns
returns c = in_code c.args.f c.args.points.now c.args.k c.args.i c.in-Some.code (sym c.code_at.ensures ∙ c.in-Some.is)
