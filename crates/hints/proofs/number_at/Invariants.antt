-- `hints::number_at` meets its contract.
use Rattle.std.proofs.Common.{◌<◌}
use Rattle.hints.proofs.number_at.Given as goal

abbrev pub invariant-loop : goal.invariant-loop
invariant-loop l = l.low < 64
