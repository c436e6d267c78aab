-- `file_sections::is_whole` meets its contract.
use Rattle.file_sections.proofs.Judged.{whole-8, whole-4}
use Rattle.file_sections.proofs.is_whole.Goals as goal

pub returns-then-width-eq8 : goal.returns-then-width-eq8
returns-then-width-eq8 c = whole-8 c.args.bytes c.args.width c.if-width-eq8.true

pub returns : goal.returns
returns c = whole-4 c.args.bytes c.args.width c.if-width-eq8.false
