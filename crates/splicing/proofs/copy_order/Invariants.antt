-- `splicing::copy_order` meets its contract.
use Prim.Native.Nat.{◌+◌, ◌-◌, ◌≤◌}
use lib.ListN.{get_or}
use Rattle.splicing.specs.Copies.{Copied}
use Rattle.splicing.proofs.copy_order.Given as goal

abbrev pub invariant-loop-i : goal.invariant-loop-i
invariant-loop-i l = (l.i ≤ l.n) × Copied l.i l.at (λ j. get_or l.order (l.from + j) 0) l.initial.work l.work
