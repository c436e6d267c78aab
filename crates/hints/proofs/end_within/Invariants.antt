-- `hints::end_within` meets its contract.
use Rattle.std.proofs.Common.{◌*◌, ◌<◌, ◌≤◌, length}
use Rattle.hints.proofs.end_within.Given as goal

abbrev pub invariant-loop-step : goal.invariant-loop-step
invariant-loop-step l = (l.last < length l.key) × (l.step ≤ 2 * length l.key)

abbrev pub decreases-loop-step : goal.decreases-loop-step
decreases-loop-step l = l.step
