-- None where the number of axes is not 1 to 3.
use native.Mathlib.Omega.{arith}
use Rattle.axes.proofs.Known.{axes-other}
use Rattle.axes.proofs.figures.Goals as goal

pub returns-in_default : goal.returns-in_default
returns-in_default c = simp (axes-other c.args.axes (λ e. omega arith) (λ e. omega arith) (λ e. omega arith))
