-- `balancing::put_cells` meets its contract: what is written, with the cells that are still to come, is all cells.
use mathlib.Core.Path.{◌≡◌}
use lib.ListN.{length}
use Rattle.balancing.proofs.Walking.{Walked, starting}
use Rattle.balancing.proofs.put_cells.Given as goal

abbrev pub invariant-loop-k : goal.invariant-loop-k
invariant-loop-k l = Walked l.axes l.key l.room l.out l.n l.k × (length l.out ≡ length l.initial.out)

abbrev pub decreases-loop-k : goal.decreases-loop-k
decreases-loop-k l = length (starting l.axes l.key l.k)
