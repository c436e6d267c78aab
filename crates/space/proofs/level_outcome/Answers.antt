-- `space::level_outcome` meets its contract.
use mathlib.Core.Path.{sym, ◌∙◌}
use Rattle.space.proofs.Refusals.{box-refused, level-over, level-fine}
use Rattle.space.proofs.level_outcome.Goals as goal

pub returns-then-level-gt16 : goal.returns-then-level-gt16
returns-then-level-gt16 c = level-over c.args.b c.args.level (sym c.box_outcome.ensures ∙ c.in_ok-box_outcome.was) c.if-level-gt16.true

pub returns : goal.returns
returns c = level-fine c.args.b c.args.level (sym c.box_outcome.ensures ∙ c.in_ok-box_outcome.was) c.if-level-gt16.false
