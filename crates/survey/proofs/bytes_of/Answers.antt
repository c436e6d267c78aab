-- `survey::bytes_of` meets its contract.
use mathlib.Core.Path.{refl}
use native.Mathlib.Omega.{arith}
use Rattle.survey.proofs.Numbers.{row-bytes}
use Rattle.survey.proofs.bytes_of.Goals as goal

pub overflow_mul-result : goal.overflow_mul-result
overflow_mul-result c = omega (arith, row-bytes c.args.rows c.args.axes c.requires.0 c.requires.1)

pub overflow_mul-result-2 : goal.overflow_mul-result-2
overflow_mul-result-2 c = omega (arith, row-bytes c.args.rows c.args.axes c.requires.0 c.requires.1)

pub returns : goal.returns
returns c = (refl, omega (arith, row-bytes c.args.rows c.args.axes c.requires.0 c.requires.1))
