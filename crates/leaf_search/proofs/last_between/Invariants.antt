-- `leaf_search::last_between` meets its contract.
use Rattle.std.proofs.Common.{◌-◌}
use Rattle.leaf_search.specs.Search.{Between}
use Rattle.leaf_search.proofs.last_between.Given as goal

abbrev pub invariant-loop-low : goal.invariant-loop-low
invariant-loop-low l = Between l.axes l.key l.code l.low l.high

abbrev pub decreases-loop-low : goal.decreases-loop-low
decreases-loop-low l = l.high - l.low
