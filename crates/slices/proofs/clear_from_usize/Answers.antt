-- `slices::clear_from_usize` meets its contract: what was lent is the tail.
use Rattle.slices.proofs.Zeros.{tail-cleared, past_end}
use Rattle.slices.proofs.clear_from_usize.Goals as goal

pub returns-then-from-column : goal.returns-then-from-column
returns-then-from-column c = tail-cleared c.args.from c.args.column.now _ c.clear_usize.ensures

pub returns-else-from-column : goal.returns-else-from-column
returns-else-from-column c = past_end _ _ c.if-from-column.false
