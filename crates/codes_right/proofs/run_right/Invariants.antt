-- `codes_right::run_right` meets its contract.
use lib.ListN.{length}
use Rattle.points_right.specs.Points.{code_in}
use Rattle.points_right.proofs.Runs.{Upto}
use Rattle.codes_right.proofs.run_right.Given as goal

abbrev pub invariant-loop-p : goal.invariant-loop-p
invariant-loop-p l = Upto (length l.codes) (code_in l.axes l.codes) l.order l.k l.from l.low l.p
