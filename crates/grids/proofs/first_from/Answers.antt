-- `grids::first_from` meets its contract.
use mathlib.Core.Path.{refl}
use Rattle.grids.proofs.Halving.{sought-whole}
use Rattle.grids.proofs.first_from.Goals as goal

pub first_within-requires : goal.first_within-requires
first_within-requires c = sought-whole c.args.f c.args.g c.args.a c.args.x _ refl c.requires.0 c.requires.1
