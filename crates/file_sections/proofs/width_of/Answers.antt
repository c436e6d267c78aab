-- `file_sections::width_of` meets its contract.
use Rattle.file_sections.proofs.Located.{width-1, width-7, width-9, width-4}
use Rattle.file_sections.proofs.width_of.Goals as goal

pub returns-then-code-eq1 : goal.returns-then-code-eq1
returns-then-code-eq1 c = width-1 _ c.if-code-eq1.true

pub returns-then-code-eq7 : goal.returns-then-code-eq7
returns-then-code-eq7 c = width-7 _ c.if-code-eq1.false c.if-code-eq7.true

pub returns-then-code-eq9 : goal.returns-then-code-eq9
returns-then-code-eq9 c = width-9 _ c.if-code-eq1.false c.if-code-eq7.false c.if-code-eq9.true

pub returns : goal.returns
returns c = width-4 _ c.if-code-eq1.false c.if-code-eq7.false c.if-code-eq9.false
