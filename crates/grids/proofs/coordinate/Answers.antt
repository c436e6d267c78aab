-- `grids::coordinate` meets its contract: the index is a float exactly.
use Rattle.grids.proofs.Halving.{in-float}
use Rattle.grids.proofs.coordinate.Goals as goal

pub int_to_float-result : goal.int_to_float-result
int_to_float-result c = in-float c.args.i c.requires.1
