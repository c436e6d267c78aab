-- `file_order::order_right` meets its contract.
use Prim.Native.Nat.{◌-◌}
use Rattle.tree_file.specs.Trailer.{column_in}
use Rattle.arrangement.proofs.Judged.{Upto}
use Rattle.file_order.proofs.order_right.Given as goal

abbrev pub invariant-loop-from : goal.invariant-loop-from
invariant-loop-from l = Upto (column_in l.file 5) l.n l.from

abbrev pub decreases-loop-from : goal.decreases-loop-from
decreases-loop-from l = l.n - l.from
