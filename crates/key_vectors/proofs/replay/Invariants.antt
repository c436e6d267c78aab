-- The place moves on by a line at least, so the counts are at most the place. The measure is what is left of the text.
use Prim.Native.Nat.{◌≤◌, ◌-◌}
use lib.ListN.{length}
use Rattle.key_vectors.proofs.replay.Given as goal

abbrev pub invariant-loop-at : goal.invariant-loop-at
invariant-loop-at g l = (l.line ≤ l.at) × (l.cases ≤ l.at) × (l.differ ≤ l.at) × (l.at ≤ length l.s)

abbrev pub decreases-loop-at : goal.decreases-loop-at
decreases-loop-at g l = length l.s - l.at
