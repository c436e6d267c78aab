-- `file_bytes::clear_from` meets its contract: what was lent is the tail.
use Rattle.slices.proofs.Zeros.{tail-cleared, past_end}
use Rattle.file_bytes.proofs.clear_from.Goals as goal

pub returns-then-from-s : goal.returns-then-from-s
returns-then-from-s c = tail-cleared c.args.from c.args.s.now _ c.clear.ensures

pub returns-else-from-s : goal.returns-else-from-s
returns-else-from-s c = past_end _ _ c.if-from-s.false
