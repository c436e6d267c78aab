-- `text::start_at` meets its contract.
use mathlib.Core.Path.{sym}
use lib.ListN.{get_or-eq_default}
use Rattle.text.proofs.start_at.Goals as goal

pub returns : goal.returns
returns c = sym (get_or-eq_default c.args.column.now 0 {n = c.args.i} c.if-i-column.false)
