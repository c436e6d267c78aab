-- `change_list::put_codes` meets its contract.
use Rattle.change_list.proofs.Coded.{five-parts}
use Rattle.change_list.proofs.put_codes.Goals as goal

pub returns : goal.returns
returns c = five-parts _ _ _ _ _ _ _ _ _ _ c.put_code.ensures c.put_code-2.ensures c.put_code-3.ensures c.put_code-4.ensures c.put_code-5.ensures
