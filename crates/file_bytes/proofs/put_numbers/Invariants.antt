-- `file_bytes::put_numbers` meets its contract.
use Rattle.file_bytes.proofs.Numbers.{Putting}
use Rattle.file_bytes.proofs.put_numbers.Given as goal

abbrev pub invariant-loop-i : goal.invariant-loop-i
invariant-loop-i l = Putting 4 l.xs l.at l.initial.out l.out l.i
