-- `extents::box_from` meets its contract.
use Rattle.extents.proofs.box_from.Goals as goal

pub returns : goal.returns
returns c = cc
