-- `text::put_row` meets its contract.
use Rattle.text.proofs.Putting.{puts-lettered, puts-no-keys, puts-keys, row-empty, row-part}
use Rattle.text.proofs.put_row.Goals as goal

pub returns-then-to-from : goal.returns-then-to-from
returns-then-to-from c = puts-lettered _ _ _ _ _ _ _ _ _ _ c.put-blank.ensures c.put-m.ensures (puts-no-keys _ _ _ (row-empty c.args.starts.now c.args.keys.now c.args.node _ _ _ c.start_at-from.ensures c.start_at.ensures c.min-to.ensures c.if-to-from.true))

pub returns : goal.returns
returns c = puts-lettered _ _ _ _ _ _ _ _ _ _ c.put-blank.ensures c.put-m.ensures (puts-keys _ _ _ _ _ _ (row-part c.args.starts.now c.args.keys.now c.args.node _ _ _ c.start_at-from.ensures c.start_at.ensures c.min-to.ensures c.if-to-from.false) c.put_fields.ensures)
