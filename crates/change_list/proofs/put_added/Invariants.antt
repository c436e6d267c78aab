-- `change_list::put_added` meets its contract.
use mathlib.Core.Path.{◌≡◌}
use Prim.Native.Nat.{◌-◌, ◌≤◌}
use lib.Dec.{eqb}
use lib.ListN.{length, get_or}
use Rattle.sourced.specs.Room.{Puts}
use Rattle.changed_rows.proofs.Putting.{picked}
use Rattle.change_list.proofs.put_added.Given as goal

abbrev pub invariant-loop-q : goal.invariant-loop-q
invariant-loop-q l = (l.q ≤ length l.nodes) × Puts l.initial.changed l.from (picked (λ j. get_or l.nodes j 0) (λ j. eqb (get_or l.firsts j 0) 0) l.q) l.changed l.n × (length l.changed ≡ length l.initial.changed)
