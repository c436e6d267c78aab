-- `tree::end_of` meets its contract.
use Prim.Native.Nat.{◌-◌}
use Rattle.tree.proofs.EndSearch.{Ending}
use Rattle.tree.proofs.end_of.Given as goal

abbrev pub invariant-loop-low : goal.invariant-loop-low
invariant-loop-low l = Ending l.key l.node l.low l.high

abbrev pub decreases-loop-low : goal.decreases-loop-low
decreases-loop-low l = l.high - l.low
