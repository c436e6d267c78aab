-- No row before the place is of the level.
use Rattle.exports_nodes.proofs.Rows.{NoneYet}
use Rattle.exports_nodes.proofs.lohandema_next_of_level.Given as goal

abbrev pub invariant-loop-i : goal.invariant-loop-i
invariant-loop-i l = NoneYet l.key l.level l.from l.i
