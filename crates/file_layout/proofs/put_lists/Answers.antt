-- `file_layout::put_lists` meets its contract.
use mathlib.Core.Path.{refl}
use Rattle.file_layout.proofs.Putting.{lists-put}
use Rattle.file_layout.proofs.put_lists.Goals as goal

pub returns : goal.returns
returns c = record { bytes = lists-put c.args.file.now _ _ _ _ c.args.at c.args.u_starts.now c.args.u_keys.now c.args.v_starts.now c.args.v_keys.now c.requires c.put_numbers.auto.out c.put_keys.auto.out c.put_numbers-2.auto.out c.put_numbers.ensures c.put_keys.ensures c.put_numbers-2.ensures c.put_keys-2.ensures; end = refl }
