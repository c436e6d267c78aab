-- `hints::count_crowded` meets its contract.
use Rattle.std.proofs.Common.{◌≤◌}
use Rattle.hints.proofs.count_crowded.Given as goal

abbrev pub invariant-loop-at : goal.invariant-loop-at
invariant-loop-at l = l.count ≤ l.at
