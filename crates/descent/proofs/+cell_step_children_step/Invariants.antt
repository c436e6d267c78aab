-- `descent::cell_step` and `descent::children_step` meet their contracts. The levels below fall from a cell step to its children step.
use Prim.Native.Nat.{◌+◌, ◌*◌, ◌-◌, ◌≤◌}
use mathlib.Core.Path.{◌≡◌}
use lib.ListN.{length}
use Rattle.sourced.specs.Room.{PutsThose}
use Rattle.descent.specs.Steps.{Siblings}
use Rattle.descent.specs.Owners.{owns_within}
use Rattle.descent.proofs.+cell_step_children_step.Given as goal

abbrev pub decreases-cell_step : goal.decreases-cell_step
decreases-cell_step l = l.left * 2

abbrev pub decreases-children_step : goal.decreases-children_step
decreases-children_step l = l.left * 2 + 1

abbrev pub invariant-children_step-loop-c : goal.invariant-children_step-loop-c
invariant-children_step-loop-c l = (length l.out ≡ length l.initial.out) × (l.from ≤ l.c) × Siblings l.axes l.key l.own l.total l.c l.to l.left × PutsThose l.key (owns_within l.key l.own l.from l.c) l.initial.out l.n l.out l.m

abbrev pub decreases-children_step-loop-c : goal.decreases-children_step-loop-c
decreases-children_step-loop-c l = l.to - l.c
