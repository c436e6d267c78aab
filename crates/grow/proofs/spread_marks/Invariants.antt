-- `grow::spread_marks` meets its contract.
use Rattle.grow.proofs.Spreading.{Spreading}
use Rattle.grow.proofs.spread_marks.Given as goal

abbrev pub invariant-loop-i : goal.invariant-loop-i
invariant-loop-i l = Spreading l.n l.initial.total l.initial.own l.initial.begin l.own l.begin l.total l.at l.i
