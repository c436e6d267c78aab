-- `arrangement::once_from` meets its contract.
use Prim.Native.Nat.{◌*◌}
use Rattle.arrangement.proofs.Marks.{Marking}
use Rattle.arrangement.proofs.once_from.Given as goal

abbrev pub invariant-loop-index : goal.invariant-loop-index
invariant-loop-index l = Marking l.order (l.window * 131072) l.seen l.index-index
