-- The children of the first i nodes listed have been put.
use Rattle.around.specs.Around.{nodes_in, places_in, masks_in}
use Rattle.around.proofs.Putting.{AroundPut}
use Rattle.around.proofs.around_of.Given as goal

abbrev pub invariant-loop-i : goal.invariant-loop-i
invariant-loop-i l = AroundPut l.axes l.key l.own l.spot l.listed l.c l.i (nodes_in l.frame) (places_in l.frame) (masks_in l.frame) l.m
