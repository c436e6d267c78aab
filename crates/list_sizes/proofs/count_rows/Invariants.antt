-- Each row is put into room for it, so that its count is its length.
use Rattle.rows.specs.Lists.{u_row, v_row}
use Rattle.node_rows.specs.Stack.{Ready}
use Rattle.list_sizes.proofs.Counts.{Counted}
use Rattle.list_sizes.proofs.count_rows.Given as goal

abbrev pub invariant-loop-i : goal.invariant-loop-i
invariant-loop-i l = Counted (u_row l.axes l.key l.own) l.key l.i l.u × Counted (v_row l.axes l.key l.own) l.key l.i l.v × Ready l.axes l.key l.own l.i l.stack l.held
