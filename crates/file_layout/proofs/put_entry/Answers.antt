-- `file_layout::put_entry` meets its contract.
use Rattle.file_layout.proofs.Putting.{entry-put}
use Rattle.file_layout.proofs.put_entry.Goals as goal

pub returns : goal.returns
returns c = entry-put c.args.file.now _ _ _ c.args.at c.args.code c.args.back c.args.bytes c.requires c.put_number.ensures c.put_number-2.ensures c.put_number-3.ensures
