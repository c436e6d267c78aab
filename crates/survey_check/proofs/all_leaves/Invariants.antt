-- `survey_check::all_leaves` meets its contract.
use Rattle.survey_check.proofs.Leaves.{v_starts}
use Rattle.survey_check.proofs.Tour.{Touring}
use Rattle.cell_sums.specs.Kept.{Kept}
use Rattle.survey_check.proofs.all_leaves.Given as goal

abbrev pub invariant-loop-node : goal.invariant-loop-node
invariant-loop-node l = Kept l.key l.total l.begin l.indices l.readings l.names l.held l.counts × Touring l.axes l.key l.own l.begin l.total l.readings l.indices l.u_starts l.u_keys l.v_starts l.v_keys l.far l.cells l.leaves l.additions l.node
