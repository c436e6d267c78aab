-- `list_rows::rises_at` meets its contract.
use Rattle.list_rows.proofs.Entries.{first-rises, later-rises}
use Rattle.list_rows.proofs.rises_at.Goals as goal

pub returns-then-i-lt1 : goal.returns-then-i-lt1
returns-then-i-lt1 c = first-rises c.args.flat.now c.args.i c.if-i-lt1.true

pub returns : goal.returns
returns c = later-rises c.args.flat.now c.args.i c.if-i-lt1.false
