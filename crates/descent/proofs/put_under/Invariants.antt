-- `descent::put_under` meets its contract. The owners under the nodes passed have been put.
use lib.ListN.{take}
use Rattle.sourced.specs.Room.{PutsThose}
use Rattle.descent.specs.Owners.{owns_below}
use Rattle.descent.proofs.put_under.Given as goal

abbrev pub invariant-loop-j : goal.invariant-loop-j
invariant-loop-j l = PutsThose l.key (owns_below l.axes l.key l.own (take l.j l.nodes)) l.initial.out l.n l.out l.m
