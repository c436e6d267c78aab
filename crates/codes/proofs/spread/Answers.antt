-- Four steps apart.
use Rattle.codes.proofs.Steps.{four-apart}
use Rattle.codes.proofs.spread.Goals as goal

pub returns : goal.returns
returns c d n x more room is = four-apart _ d n more is _ _ _ _ _ x room c.apart-eights.ensures c.apart-fours.ensures c.apart-twos.ensures c.apart.ensures
