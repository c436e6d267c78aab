-- `space::points_to_codes` meets its contract: the rows seen are inside, and their codes are written (`proofs/Batches.antt`).
use Rattle.space.proofs.Batches.{Written}
use Rattle.space.proofs.points_to_codes.Given as goal

abbrev pub invariant-loop-row : goal.invariant-loop-row
invariant-loop-row l = Written l.rows l.f l.points l.initial.codes l.codes l.row l.at
