-- `lookup::shape_outcome` meets its contract.
use mathlib.Core.Path.{sym, ◌∙◌}
use Rattle.lookup.proofs.Calls.{box-refused, no-shape, too_many, shaped}
use Rattle.refusal.proofs.Chain.{passed-on}
use Rattle.lookup.proofs.shape_outcome.Goals as goal

pub returns-then-numbers-axes-ne0 : goal.returns-then-numbers-axes-ne0
returns-then-numbers-axes-ne0 c = no-shape c.args.b c.args.numbers (sym c.box_outcome.ensures ∙ c.in_ok-box_outcome.was) c.if-numbers-axes-ne0.true

pub returns-then-numbers-axes-gt-MOST_POINTS : goal.returns-then-numbers-axes-gt-MOST_POINTS
returns-then-numbers-axes-gt-MOST_POINTS c = too_many c.args.b c.args.numbers (sym c.box_outcome.ensures ∙ c.in_ok-box_outcome.was) c.if-numbers-axes-ne0.false c.if-numbers-axes-gt-MOST_POINTS.true

pub returns : goal.returns
returns c = shaped c.args.b c.args.numbers (sym c.box_outcome.ensures ∙ c.in_ok-box_outcome.was) c.if-numbers-axes-ne0.false c.if-numbers-axes-gt-MOST_POINTS.false

pub returns-in_err-box_outcome : goal.returns-in_err-box_outcome
returns-in_err-box_outcome c = passed-on _ _ c.from_residual.ensures.1 ∙ box-refused c.args.b c.args.numbers _ (sym c.box_outcome.ensures ∙ c.in_err-box_outcome.was)
