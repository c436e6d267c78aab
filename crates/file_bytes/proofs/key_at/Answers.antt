-- `file_bytes::key_at` meets its contract.
use Rattle.file_bytes.proofs.Numbers.{entries-past, key-is}
use Rattle.file_bytes.proofs.key_at.Goals as goal

pub returns-then-i-n : goal.returns-then-i-n
returns-then-i-n c = entries-past c.args.file.now 8 c.args.at _ _ c.if-i-n.true

pub returns : goal.returns
returns c = key-is c.args.file.now c.args.at c.args.n c.args.i c.if-i-n.false _ _ c.u32_at.ensures.0 c.u32_at-2.ensures.0
