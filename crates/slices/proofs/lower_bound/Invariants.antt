-- `slices::lower_bound` meets its contract: the answer stays between lo and lo + n.
use Prim.Native.Nat.{◌≤◌, ◌+◌}
use lib.ListN.{length}
use Rattle.slices.specs.Order.{Sorted, count_below}
use Rattle.slices.proofs.lower_bound.Given as goal

abbrev pub invariant-loop-n : goal.invariant-loop-n
invariant-loop-n l = (l.lo + l.n ≤ length l.s) × (Sorted l.s → (l.lo ≤ count_below l.x l.s) × (count_below l.x l.s ≤ l.lo + l.n))

abbrev pub decreases-loop-n : goal.decreases-loop-n
decreases-loop-n l = l.n
