-- `filling::clear_keys` meets its contract.
use Rattle.filling.proofs.clear_keys.Goals as goal

pub returns : goal.returns
returns c = record { work_after = c.clear.ensures; indices_after = c.clear_usize.ensures; key_after = c.clear-2.ensures }
