-- `hints::fill_table` meets its contract.
use Rattle.std.proofs.Common.{◌≤◌}
use Rattle.hints.proofs.fill_table.Given as goal

abbrev pub invariant-loop-deep : goal.invariant-loop-deep
invariant-loop-deep l = (l.low ≤ 33) × (l.end ≤ 12288)
