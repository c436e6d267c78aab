-- `file_layout::put_columns` meets its contract.
use mathlib.Core.Path.{refl}
use Rattle.file_layout.proofs.Putting.{columns-put}
use Rattle.file_layout.proofs.put_columns.Goals as goal

pub returns : goal.returns
returns c = record { bytes = columns-put c.args.file.now _ _ _ _ _ c.args.key.now c.args.own.now c.args.begin.now c.args.total.now c.args.indices.now c.requires c.put_keys.auto.out c.put_numbers.auto.out c.put_numbers-2.auto.out c.put_numbers-3.auto.out c.put_keys.ensures c.put_numbers.ensures c.put_numbers-2.ensures c.put_numbers-3.ensures c.put_numbers-4.ensures; end = refl }
