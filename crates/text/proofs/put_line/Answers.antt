-- `text::put_line` meets its contract.
use Rattle.text.proofs.Putting.{puts-join}
use Rattle.text.proofs.put_line.Goals as goal

pub returns : goal.returns
returns c = puts-join _ _ _ _ _ _ _ _ (puts-join _ _ _ _ _ _ _ _ c.put_word-a.ensures c.put_fields-b.ensures) c.put.ensures
