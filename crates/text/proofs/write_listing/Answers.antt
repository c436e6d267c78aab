-- `text::write_listing` meets its contract.
use native.Mathlib.Omega.{arith}
use Rattle.text.proofs.Putting.{puts-join, ended}
use Rattle.text.proofs.write_listing.Goals as goal

pub returns : goal.returns
returns c = let all = ended _ _ _ _ _ _ (puts-join _ _ _ _ _ _ _ _ c.put_line-n.ensures c.put_nodes-m.ensures) (omega (arith, c.put_line-n.auto, c.put_nodes-m.auto)) c.finish.ensures in record { answer = all.0; text = all.1 }
