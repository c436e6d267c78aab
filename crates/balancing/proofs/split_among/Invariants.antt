-- `balancing::split_among` meets its contract: the nodes that are still to come tell what all tell.
use mathlib.Core.Path.{◌≡◌}
use Prim.Native.Nat.{◌-◌, ◌≤◌}
use Rattle.balancing.specs.Walk.{split_among}
use Rattle.balancing.proofs.split_among.Given as goal

abbrev pub invariant-loop-i : goal.invariant-loop-i
invariant-loop-i l = (l.i ≤ l.end) × (split_among l.axes l.key l.r l.i (l.end - l.i) ≡ split_among l.axes l.key l.r l.first (l.end - l.first))
