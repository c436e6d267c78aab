-- The bytes passed have been put.
use lib.ListN.{take}
use Rattle.sourced.specs.Room.{Puts}
use Rattle.text.proofs.put_word.Given as goal

abbrev pub invariant-loop-byte : goal.invariant-loop-byte
invariant-loop-byte l = Puts l.initial.out l.n (take l.byte-index l.word) l.out l.m
