-- `file_bytes::put_keys` meets its contract.
use Rattle.file_bytes.proofs.Numbers.{Putting}
use Rattle.file_bytes.proofs.put_keys.Given as goal

abbrev pub invariant-loop-i : goal.invariant-loop-i
invariant-loop-i l = Putting 8 l.xs l.at l.initial.out l.out l.i
