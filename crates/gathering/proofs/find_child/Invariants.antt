-- `gathering::find_child` meets its contract.
use Prim.Native.Nat.{ℕ}
use Rattle.gathering.specs.Links.{Linked, Below}
use Rattle.gathering.proofs.Links.{At}
use Rattle.gathering.proofs.find_child.Given as goal

abbrev pub invariant-loop-j : goal.invariant-loop-j
invariant-loop-j l = (d n : ℕ) → Linked d n l.key l.child l.next → Below d n l.key l.p l.k → At d n l.key l.p l.k l.j

abbrev pub decreases-loop-j : goal.decreases-loop-j
decreases-loop-j l = l.j
