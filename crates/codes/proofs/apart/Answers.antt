-- The law of a step apart.
use Rattle.codes.proofs.Runs.{apart-is}
use Rattle.codes.proofs.apart.Goals as goal

pub returns : goal.returns
returns c = apart-is _ _ _
