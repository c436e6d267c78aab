-- Four steps together.
use Rattle.codes.proofs.Steps.{four_together}
use Rattle.codes.proofs.gather.Goals as goal

pub returns : goal.returns
returns c d n more some is = four_together _ d n more is _ _ _ _ _ some c.together-twos.ensures c.together-fours.ensures c.together-eights.ensures c.together.ensures
