-- The first i near entries are split.
use Rattle.around.proofs.Parting.{SplitsTo}
use Rattle.around.proofs.split_near.Given as goal

abbrev pub invariant-loop-i : goal.invariant-loop-i
invariant-loop-i l = SplitsTo l.key l.nodes l.places l.near l.initial.owners l.o l.i l.owners l.m l.inner l.spots l.k
