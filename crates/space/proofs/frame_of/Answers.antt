-- `space::frame_of` meets its contract.
use Rattle.space.proofs.frame_of.Goals as goal

pub returns : goal.returns
returns c = cc
