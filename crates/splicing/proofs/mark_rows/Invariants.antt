-- `splicing::mark_rows` meets its contract.
use Prim.Native.Nat.{◌+◌, ◌-◌, ◌≤◌}
use Rattle.splicing.specs.Copies.{Copied, row_at}
use Rattle.splicing.proofs.mark_rows.Given as goal

abbrev pub invariant-loop-i : goal.invariant-loop-i
invariant-loop-i l = (l.i ≤ l.n) × Copied l.i l.at (λ j. row_at l.axes l.code l.key l.own l.total (l.from + j)) l.initial.mark l.mark
