-- `lookup::leaves_of` meets its contract.
use Rattle.morton.proofs.Checks.{axes-facts}
use Rattle.lookup.proofs.leaves_of.Goals as goal

pub prepare-blocks-requires : goal.prepare-blocks-requires
prepare-blocks-requires c = ((axes-facts _ c.requires.0.axes).1, c.requires.1, c.requires.2)
