-- `survey::centre_on` meets its contract.
use Rattle.survey.proofs.Numbers.{entry-off, entry-on}
use Rattle.survey.proofs.centre_on.Goals as goal

pub returns-then-a-axes : goal.returns-then-a-axes
returns-then-a-axes c = entry-off _ _ _ _ c.requires.1 c.if-a-axes.true

pub returns : goal.returns
returns c = entry-on _ _ _ _ _ c.requires.1 c.if-a-axes.false c.f64_at.ensures
