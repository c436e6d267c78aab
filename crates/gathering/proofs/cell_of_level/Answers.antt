-- `gathering::cell_of_level` meets its contract.
use mathlib.Core.Path.{refl}
use native.Mathlib.Omega.{arith}
use Rattle.gathering.proofs.Cells.{shift_fits, code_fits}
use Rattle.gathering.proofs.cell_of_level.Goals as goal

pub overflow_sub-shift : goal.overflow_sub-shift
overflow_sub-shift c = omega (arith, c.requires.1)

pub overflow_mul-shift : goal.overflow_mul-shift
overflow_mul-shift c = omega (arith, shift_fits c.args.axes c.args.l c.args.k c.requires.0)

pub overflow_shr-result : goal.overflow_shr-result
overflow_shr-result c = omega (arith, shift_fits c.args.axes c.args.l c.args.k c.requires.0)

pub overflow_mul-result : goal.overflow_mul-result
overflow_mul-result c = omega (arith, code_fits c.args.axes c.args.l c.args.k c.requires.0)

pub overflow_add-result : goal.overflow_add-result
overflow_add-result c = omega (arith, code_fits c.args.axes c.args.l c.args.k c.requires.0, c.requires.0.level, c.requires.1)

pub returns : goal.returns
returns c = refl
