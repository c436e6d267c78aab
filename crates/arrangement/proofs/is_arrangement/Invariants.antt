-- `arrangement::is_arrangement` meets its contract.
use Rattle.arrangement.specs.Windows as W
use Rattle.arrangement.proofs.Judged.{Upto}
use Prim.Native.Nat.{◌*◌}
use Rattle.arrangement.proofs.is_arrangement.Given as goal

abbrev pub invariant-loop-window : goal.invariant-loop-window
invariant-loop-window l = Upto l.order l.n (l.window * W.window)
