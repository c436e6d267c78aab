-- The axes are tested from the last to the first; on those passed the anchors are at most 1 apart.
use mathlib.Core.Path.{◌≡◌}
use Rattle.morton.specs.Keys.{level_of, code_of}
use Rattle.morton.specs.Anchors.{near}
use Rattle.anchors.proofs.touch_at_level.Given as goal

abbrev pub invariant-loop-n : goal.invariant-loop-n
invariant-loop-n l = near l.n l.axes (level_of l.a) (code_of l.a) (code_of l.b) ≡ near l.axes l.axes (level_of l.a) (code_of l.a) (code_of l.b)
