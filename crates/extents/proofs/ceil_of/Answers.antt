-- `extents::ceil_of` meets its contract.
use mathlib.Core.Path.{ap}
use lib.Ieee.{neg}
use Rattle.extents.proofs.ceil_of.Goals as goal

pub returns : goal.returns
returns c = ap neg c.floor_of.ensures
