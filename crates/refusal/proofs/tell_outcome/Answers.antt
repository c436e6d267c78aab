-- Nothing is told of a call that was not refused.
use mathlib.Core.Path.{refl}
use Rattle.refusal.proofs.Telling.{outcome-same}
use Rattle.refusal.proofs.tell_outcome.Goals as goal
use Rattle.refusal.specs.Outcome.{accepted}
use Rattle.std.specs.Prelude.{Err}

pub returns-in-Ok : goal.returns-in-Ok
returns-in-Ok c = outcome-same _ accepted _ c.in-Ok.is refl

pub returns-in-Err : goal.returns-in-Err
returns-in-Err c = outcome-same _ (Err c.in-Err.refusal) _ c.in-Err.is c.tell.ensures
