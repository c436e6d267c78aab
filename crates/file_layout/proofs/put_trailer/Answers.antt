-- `file_layout::put_trailer` meets its contract.
use Rattle.file_layout.proofs.Putting.{trailer-put}
use Rattle.file_layout.proofs.put_trailer.Goals as goal

pub returns : goal.returns
returns c = trailer-put c.args.file.now _ _ _ c.args.lengths.now c.args.at c.args.axes c.requires.2 c.requires.0 c.put_entries.ensures c.put_number.ensures c.put_number-2.ensures
