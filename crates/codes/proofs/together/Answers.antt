-- The law of a step together.
use Rattle.codes.proofs.Runs.{together-is}
use Rattle.codes.proofs.together.Goals as goal

pub returns : goal.returns
returns c = together-is _ _ _
