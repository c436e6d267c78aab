-- `places::place_below` meets its contract.
use Rattle.places.proofs.Laws.{below-is}
use Rattle.places.proofs.place_below.Goals as goal

pub returns : goal.returns
returns c = below-is _ _ _ c.requires.0
