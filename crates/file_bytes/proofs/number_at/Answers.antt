-- `file_bytes::number_at` meets its contract.
use Rattle.file_bytes.proofs.Numbers.{entries-past, number_is}
use Rattle.file_bytes.proofs.number_at.Goals as goal

pub returns-then-i-n : goal.returns-then-i-n
returns-then-i-n c = entries-past c.args.file.now 4 c.args.at _ _ c.if-i-n.true

pub returns : goal.returns
returns c = number_is c.args.file.now c.args.at c.args.n c.args.i c.if-i-n.false _ c.u32_at.ensures.0
