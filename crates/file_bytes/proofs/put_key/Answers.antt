-- `file_bytes::put_key` meets its contract.
use Rattle.file_bytes.proofs.Numbers.{key-bytes}
use Rattle.file_bytes.proofs.put_key.Goals as goal

pub returns : goal.returns
returns c = key-bytes c.args.out.now c.args.at c.args.x c.requires _ _ c.put_number.ensures c.put_number-2.ensures
