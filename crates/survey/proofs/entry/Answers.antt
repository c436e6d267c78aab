-- `survey::entry` meets its contract.
use mathlib.Core.Path.{refl}
use Rattle.survey.proofs.Numbers.{entry-off, entry-on}
use Rattle.survey.proofs.entry.Goals as goal

pub returns-then-i-n : goal.returns-then-i-n
returns-then-i-n c = entry-off _ _ _ _ refl c.if-i-n.true

pub returns : goal.returns
returns c = entry-on _ _ _ _ _ refl c.if-i-n.false c.f64_at.ensures
