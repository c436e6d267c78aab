-- `around::store_parts` meets its contract.
use Prim.Native.Nat.{◌-◌}
use Rattle.around.proofs.Parting.{Storing}
use Rattle.around.proofs.store_parts.Given as goal

abbrev pub invariant-loop-j : goal.invariant-loop-j
invariant-loop-j l = Storing l.key l.nodes l.masks l.c l.s l.initial.far l.f l.initial.near l.far l.m l.near l.t l.j

abbrev pub decreases-loop-j : goal.decreases-loop-j
decreases-loop-j l = l.c - l.j
