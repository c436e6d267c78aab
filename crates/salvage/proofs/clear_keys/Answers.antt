-- `salvage::clear_keys` meets its contract.
use Rattle.salvage.proofs.clear_keys.Goals as goal

pub clear_usize-requires : goal.clear_usize-requires
clear_usize-requires c = tt

pub clear-requires : goal.clear-requires
clear-requires c = tt

pub clear-requires-2 : goal.clear-requires-2
clear-requires-2 c = tt

pub clear-requires-3 : goal.clear-requires-3
clear-requires-3 c = tt

pub returns : goal.returns
returns c = record { order_after = c.clear_usize.ensures; key_after = c.clear.ensures; codes_after = c.clear-2.ensures; changed_after = c.clear-3.ensures }
