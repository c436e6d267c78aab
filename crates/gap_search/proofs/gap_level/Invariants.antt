-- `gap_search::gap_level` meets its contract.
use Rattle.gap_search.proofs.Search.{Way}
use Rattle.gap_search.proofs.gap_level.Given as goal

abbrev pub invariant-loop-level : goal.invariant-loop-level
invariant-loop-level l = Way l.axes l.key l.code l.level
