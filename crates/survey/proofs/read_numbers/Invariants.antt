-- `survey::read_numbers` meets its contract.
use lib.ListN.{length}
use Rattle.survey.specs.Bytes.{f64s_at}
use Rattle.survey.specs.File.{filled_with}
use Rattle.survey.proofs.Columns.{Filling}
use Rattle.survey.proofs.read_numbers.Given as goal

abbrev pub invariant-loop-i : goal.invariant-loop-i
invariant-loop-i l = Filling (filled_with (length l.initial.out) (f64s_at l.file l.n l.at)) l.initial.out l.out l.i
