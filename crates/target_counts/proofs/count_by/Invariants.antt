-- `target_counts::count_by` meets its contract.
use mathlib.Core.Path.{◌≡◌}
use Prim.Native.Nat.{◌-◌}
use lib.ListN.{length}
use Rattle.target_counts.proofs.Targets.{Counting}
use Rattle.target_counts.proofs.count_by.Given as goal

abbrev pub invariant-loop-row : goal.invariant-loop-row
invariant-loop-row l = Counting l.f l.rows l.key l.targets l.counts l.row × (length l.counts ≡ length l.initial.counts) × (length l.codes ≡ 512)

abbrev pub decreases-loop-row : goal.decreases-loop-row
decreases-loop-row l = l.rows - l.row
