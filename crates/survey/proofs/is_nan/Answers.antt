-- `survey::is_nan` meets its contract.
use Rattle.survey.proofs.Numbers.{no_ones, all_ones}
use Rattle.survey.proofs.is_nan.Goals as goal

pub returns-then-pattern-ne2047 : goal.returns-then-pattern-ne2047
returns-then-pattern-ne2047 c = no_ones _ c.if-pattern-ne2047.true

pub returns : goal.returns
returns c = all_ones _ c.if-pattern-ne2047.false
