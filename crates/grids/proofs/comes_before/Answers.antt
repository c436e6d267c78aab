-- `grids::comes_before` meets its contract.
use native.Mathlib.Nat.{le_trans}
use lib.Dec.{lit≤}
use Rattle.grids.proofs.Halving.{in-float, before-is}
use Rattle.grids.proofs.comes_before.Goals as goal

pub int_to_float-result : goal.int_to_float-result
int_to_float-result c = in-float c.args.x (le_trans c.requires.2 (lit≤ tt))

pub returns : goal.returns
returns c = before-is c.args.f c.args.g c.args.a c.args.i c.args.x c.coordinate.result c.requires.2 c.coordinate.ensures
