-- `hints::run_end` meets its contract.
use Rattle.std.proofs.Common.{◌-◌, ◌*◌, ◌<◌, ◌≤◌, length}
use Rattle.hints.proofs.run_end.Given as goal

abbrev pub invariant-loop-last : goal.invariant-loop-last
invariant-loop-last l = (l.last < length l.key) × (0 < l.step) × (l.step ≤ 2 * length l.key)

abbrev pub decreases-loop-last : goal.decreases-loop-last
decreases-loop-last l = length l.key - l.last
