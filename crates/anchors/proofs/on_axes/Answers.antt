-- After n turns the array holds the first n axes' anchors.
use mathlib.Core.Path.{refl}
use native.Mathlib.Omega.{arith}
use Rattle.morton.proofs.Runs.{values-start, values-next}
use Rattle.anchors.proofs.on_axes.Goals as goal

pub loop-a-init : goal.loop-a-init
loop-a-init c = values-start 3 _

pub loop-a-preserved : goal.loop-a-preserved
loop-a-preserved c = values-next 3 _ _ _ _ c.loop-a.invariant (omega arith) refl
