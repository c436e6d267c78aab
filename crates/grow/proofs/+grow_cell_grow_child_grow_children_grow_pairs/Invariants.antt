-- `grow::grow_cell`, `grow_child`, `grow_children` and `grow_pairs` meet their contracts. The levels left fall.
use mathlib.Core.Path.{◌≡◌}
use Rattle.parting.specs.Setting.{setting}
use lib.ListN.{length}
use Rattle.grow.specs.Rows.{marked}
use Rattle.grow.proofs.Stepping.{Pairing, Growing}
use Prim.Native.Nat.{◌+◌, ◌*◌, ◌-◌, ◌≤◌}
use Rattle.grow.proofs.+grow_cell_grow_child_grow_children_grow_pairs.Given as goal

abbrev pub decreases-grow_cell : goal.decreases-grow_cell
decreases-grow_cell l = 4 * l.left

abbrev pub decreases-grow_child : goal.decreases-grow_child
decreases-grow_child l = 4 * l.left + 2

abbrev pub decreases-grow_children : goal.decreases-grow_children
decreases-grow_children l = 4 * l.left - 1

abbrev pub decreases-grow_pairs : goal.decreases-grow_pairs
decreases-grow_pairs l = 4 * l.left + 1

abbrev pub invariant-grow_children-loop-c : goal.invariant-grow_children-loop-c
invariant-grow_children-loop-c l = (l.c ≤ l.many) × Growing l.g (setting l.z l.sums) l.cell l.left l.lo l.hi l.counts l.to l.initial.work (marked l.initial.key l.initial.mark l.initial.m) l.work (marked l.key l.mark l.m) l.at l.c × ((length l.work ≡ length l.initial.work) × (length l.key ≡ length l.initial.key) × (length l.mark ≡ length l.initial.mark))

abbrev pub invariant-grow_pairs-loop-b : goal.invariant-grow_pairs-loop-b
invariant-grow_pairs-loop-b l = (l.b ≤ l.many) × Pairing l.g (setting l.z l.sums) l.cell l.left l.a l.at l.counts l.initial.work (marked l.initial.key l.initial.mark l.from) l.work (marked l.key l.mark l.m) l.x l.b × ((length l.work ≡ length l.initial.work) × (length l.key ≡ length l.initial.key) × (length l.mark ≡ length l.initial.mark))
