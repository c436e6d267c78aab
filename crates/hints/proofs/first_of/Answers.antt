-- `hints::first_of` meets its contract.
use Rattle.std.proofs.Common.{◌-◌, ◌%◌, mul-le-mul, arith}
use Rattle.hints.proofs.first_of.Goals as goal

pub overflow_mul-result : goal.overflow_mul-result
overflow_mul-result c = omega (arith, mul-le-mul {n₁ = c.args.axes} {m₁ = (48 - c.args.k % 32) % 32} {n₂ = 3} {m₂ = 31} c.requires (omega arith))
