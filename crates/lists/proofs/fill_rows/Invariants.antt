-- The rows of the nodes before i stand, and the stack is ready for node i.
use mathlib.Core.Bool.{true, false}
use Rattle.node_rows.specs.Rows.{list_row}
use Rattle.node_rows.specs.Stack.{Ready}
use Rattle.lists.proofs.Pairs.{Pair}
use Rattle.lists.proofs.fill_rows.Given as goal

abbrev pub invariant-loop-i : goal.invariant-loop-i
invariant-loop-i l = Pair (list_row l.axes l.key l.own false) (list_row l.axes l.key l.own true) l.key l.starts l.u_keys l.v_keys l.i l.sizes.u l.sizes.v × Ready l.axes l.key l.own l.i l.stack l.held
