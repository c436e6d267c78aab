-- The first i entries are parted.
use Rattle.lists.proofs.Marks.{Parting}
use Rattle.lists.proofs.starts.part_starts.Given as goal

abbrev pub invariant-loop-i : goal.invariant-loop-i
invariant-loop-i l = Parting l.initial.both l.both l.low l.i
