-- `salvage::clear_nodes` meets its contract.
use Rattle.salvage.proofs.clear_nodes.Goals as goal

pub clear_from-requires : goal.clear_from-requires
clear_from-requires c = tt

pub clear_from_usize-requires : goal.clear_from_usize-requires
clear_from_usize-requires c = tt

pub clear_from_usize-requires-2 : goal.clear_from_usize-requires-2
clear_from_usize-requires-2 c = tt

pub clear_from_usize-requires-3 : goal.clear_from_usize-requires-3
clear_from_usize-requires-3 c = tt

pub returns : goal.returns
returns c = record { key_after = c.clear_from.ensures; own_after = c.clear_from_usize.ensures; begin_after = c.clear_from_usize-2.ensures; total_after = c.clear_from_usize-3.ensures }
