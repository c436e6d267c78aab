-- `hints::part_words` meets its contract.
use Rattle.std.proofs.Common.{◌≤◌}
use Rattle.hints.proofs.part_words.Given as goal

abbrev pub invariant-loop-at : goal.invariant-loop-at
invariant-loop-at l = (l.used ≤ 12288) × (1 ≤ l.size) × (l.size ≤ 256)
