-- `file_sections::is_inside` meets its contract.
use Rattle.file_sections.proofs.Judged.{inside-off, inside_on}
use Rattle.file_sections.proofs.is_inside.Goals as goal

pub returns-then-back-trailer : goal.returns-then-back-trailer
returns-then-back-trailer c = inside-off _ _ _ c.if-back-trailer.true

pub returns : goal.returns
returns c = inside_on _ _ _ c.if-back-trailer.false
