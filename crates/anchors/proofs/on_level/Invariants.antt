-- The axes are tested from the last to the first; those passed are on the level.
use mathlib.Core.Path.{◌≡◌}
use Rattle.morton.specs.Anchors.{on_level}
use Rattle.anchors.proofs.on_level.Given as goal

abbrev pub invariant-loop-n : goal.invariant-loop-n
invariant-loop-n l = on_level l.n l.level l.anchor ≡ on_level l.axes l.level l.anchor
