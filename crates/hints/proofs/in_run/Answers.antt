-- `hints::in_run` meets its contract.
use Rattle.std.proofs.Common.{refl}
use Rattle.slices.proofs.Tests.{clash}
use Rattle.hints.proofs.in_run.Goals as goal

pub returns-then-key-node : goal.returns-then-key-node
returns-then-key-node c = λ e. absurd (clash e refl)
