-- `descent::store_owners` meets its contract. The owners among the nodes passed have been put.
use Prim.Native.Nat.{◌+◌, ◌-◌, ◌≤◌}
use lib.ListN.{length}
use Rattle.sourced.specs.Room.{PutsThose}
use Rattle.descent.specs.Owners.{owns_within}
use Rattle.descent.proofs.store_owners.Given as goal

abbrev pub invariant-loop-c : goal.invariant-loop-c
invariant-loop-c l = (l.m + (l.to - l.c) ≤ length l.initial.out) × PutsThose l.key (owns_within l.key l.own l.from l.c) l.initial.out l.n l.out l.m
