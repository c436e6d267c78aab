-- `around::put_children` meets its contract.
use mathlib.Core.Path.{◌≡◌}
use Prim.Native.Nat.{◌-◌, ◌≤◌}
use lib.ListN.{length}
use Rattle.links.specs.Links.{LinkedTree}
use Rattle.around.specs.Around.{nodes_in, places_in, masks_in, Beside}
use Rattle.around.proofs.Putting.{ChildrenPut}
use Rattle.around.proofs.put_children.Given as goal

abbrev pub invariant-loop-j : goal.invariant-loop-j
invariant-loop-j l = (t : LinkedTree l.axes l.key l.own l.total l.links) × (b : Beside l.axes l.key l.node l.up l.spot) × ChildrenPut t b (nodes_in l.initial.frame) l.n l.end l.j (nodes_in l.frame) (places_in l.frame) (masks_in l.frame) l.m × (648 ≤ length l.frame) × (length l.frame ≡ length l.initial.frame)

abbrev pub decreases-loop-j : goal.decreases-loop-j
decreases-loop-j l = length l.key - l.j
