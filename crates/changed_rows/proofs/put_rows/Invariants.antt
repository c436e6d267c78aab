-- `changed_rows::put_rows` meets its contract.
use mathlib.Core.Path.{◌≡◌}
use Prim.Native.Nat.{◌-◌, ◌≤◌}
use lib.ListN.{length}
use Rattle.sourced.specs.Room.{Puts}
use Rattle.changed_rows.specs.Told.{beside, key_in, told_row}
use Rattle.changed_rows.proofs.Putting.{picked}
use Rattle.changed_rows.proofs.put_rows.Given as goal

abbrev pub invariant-loop-row : goal.invariant-loop-row
invariant-loop-row l = (l.row ≤ length l.key) × Puts l.initial.changed l.from (picked (key_in (beside l.axes l.key l.own l.begin l.nodes l.counts l.begins)) (told_row (beside l.axes l.key l.own l.begin l.nodes l.counts l.begins) l.code) l.row) l.changed l.n × (length l.changed ≡ length l.initial.changed)
