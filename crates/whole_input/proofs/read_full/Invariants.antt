-- `whole_input::read_full` meets its contract: each turn reads on, within the slice.
use Rattle.std.proofs.Common.{◌≤◌, ◌-◌, length}
use Rattle.whole_input.proofs.read_full.Given as goal

abbrev pub invariant-loop-len : goal.invariant-loop-len
invariant-loop-len g l = l.len ≤ length l.room

abbrev pub decreases-loop-len : goal.decreases-loop-len
decreases-loop-len g l = length l.initial.room - l.len
