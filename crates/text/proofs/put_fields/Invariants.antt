-- The numbers passed have been put.
use lib.ListN.{take}
use Rattle.sourced.specs.Room.{Puts}
use Rattle.text.specs.Listing.{fields}
use Rattle.text.proofs.put_fields.Given as goal

abbrev pub invariant-loop-x : goal.invariant-loop-x
invariant-loop-x l = Puts l.initial.out l.n (fields (take l.x-index l.xs)) l.out l.m
