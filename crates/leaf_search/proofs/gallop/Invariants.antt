-- `leaf_search::gallop` meets its contract.
use Rattle.std.proofs.Common.{◌-◌, ◌<◌, ◌≤◌, length, get_or}
use Rattle.tree.specs.Order.{first}
use Rattle.leaf_search.proofs.gallop.Given as goal

abbrev pub invariant-loop-step : goal.invariant-loop-step
invariant-loop-step l = (l.low < length l.key) × (first l.axes (get_or l.key l.low 0) ≤ l.code) × (0 < l.step)

abbrev pub decreases-loop-step : goal.decreases-loop-step
decreases-loop-step l = length l.key - l.low
